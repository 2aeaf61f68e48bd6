-- Locations that are kept without the path of the one above them.
use Rattle.std.specs.Prelude.{◌≡◌, ℕ, ◌<◌, List, [], ◌∷◌, ◌++◌, Option, Some, None, IfSome, fold, option_map, slice_get}
use Rattle.svn_path.specs.declared.names.NameId.{NameId}
use Rattle.block_map.specs.declared.trie.location.Location.{Location}
use Rattle.block_map.specs.declared.trie.location.LocationId.{LocationId}
use Rattle.block_map.specs.declared.trie.location.StoredLocation.{StoredLocation}

-- the path of a location, if there is one
abbrev pub path_at : Option Location → List NameId
path_at None = []
path_at (Some location) = location.path

abbrev pub path_of : List Location → LocationId → List NameId
path_of locations id = path_at (slice_get locations id.0)

-- the location at these components below another one
abbrev pub location_below : List NameId → Location → Location
location_below rest above = record { path = above.path ++ rest; tick = above.tick }

abbrev pub IsLocationBelow : List Location → LocationId → List NameId → Location → Type 0
IsLocationBelow locations id rest location = option_map (location_below rest) (slice_get locations id.0) ≡ Some location

-- the location of these components below another one was added
pub record AddsBelow (old new : List Location) (id : LocationId) (rest : List NameId) : Type 0 where
  pub location : Location
  pub below : IsLocationBelow old id rest location
  pub added : new ≡ old ++ location ∷ []

-- ---- as they are kept

-- the path that it is below
abbrev pub path_above : List Location → Option LocationId → List NameId
path_above locations None = []
path_above locations (Some above) = path_of locations above

-- the location with its whole path, given those before it
abbrev pub whole_location : List Location → StoredLocation → Location
whole_location locations stored = record { path = path_above locations stored.above ++ stored.rest; tick = stored.tick }

abbrev pub with_stored : List Location → StoredLocation → List Location
with_stored locations stored = locations ++ whole_location locations stored ∷ []

-- all of them
unfoldable pub locations_of : List StoredLocation → List Location
locations_of items = fold with_stored [] items

-- each stands after the one above it
abbrev pub AreAfterThoseAbove : List StoredLocation → Type 0
AreAfterThoseAbove items = (index : ℕ) (stored : StoredLocation) → slice_get items index ≡ Some stored → IfSome stored.above (λ above. above.0 < index)
