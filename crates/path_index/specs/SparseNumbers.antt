-- The numbers of nodes most of which have none: a table has the place of each node's list.
use Rattle.std.specs.Prelude.{◌≡◌, ℕ, suc, ◌<◌, ◌≤◌, ◌⊎◌, List, [], Some, length, map, slice_get, slice_index_or, unwrap_or}
use Rattle.smallvec.specs.SmallVec.{SmallVec}
use Rattle.path_index.specs.Numbers.{numbers_of}

-- the place of a node: 0 if it has none
abbrev pub place_of : List ℕ → ℕ → ℕ
place_of places node = slice_index_or places node 0

-- what a place past the end of the lists has
abbrev pub no_list : SmallVec ℕ
no_list = record { items = []; capacity = 0 }

abbrev pub list_at : List (SmallVec ℕ) → ℕ → SmallVec ℕ
list_at lists place = unwrap_or (slice_get lists place) no_list

-- for each node the list at its place
abbrev pub lists_by_node : List ℕ → List (SmallVec ℕ) → List (SmallVec ℕ)
lists_by_node places lists = map (list_at lists) places

-- the place of a node leads back to it, so no two nodes have the same place
abbrev pub LeadBack : List ℕ → List ℕ → Type 0
LeadBack places nodes = (node place : ℕ) → place_of places node ≡ suc place → slice_get nodes place ≡ Some node

-- place 0 and the places after the last that belongs to a node have no numbers
abbrev pub HaveNoneElsewhere : List ℕ → List (SmallVec ℕ) → Type 0
HaveNoneElsewhere nodes lists =
    (numbers_of lists 0 ≡ []) × ((place : ℕ) → length nodes < place → numbers_of lists place ≡ [])

-- a node keeps its place, or gets one that belonged to no node before
abbrev pub KeepPlaces : List ℕ → List ℕ → List ℕ → Type 0
KeepPlaces nodes old new =
    (node : ℕ)
    → (place_of new node ≡ place_of old node) ⊎ ((place_of old node ≡ 0) × (length nodes < place_of new node))

-- the node has this place, which belongs to a node
abbrev pub IsPlaceOf : List ℕ → List ℕ → ℕ → ℕ → Type 0
IsPlaceOf places nodes node place = (place_of places node ≡ place) × (0 < place) × (place ≤ length nodes)
