-- The paths of locations that are kept without the path of the one above them.
use Rattle.block_map.proofs.Common.{◌≡◌, ℕ, zero, suc, ◌+◌, ◌<◌, inl, inr, List, [], ◌∷◌, ◌++◌, reverse, Option, Some, None, IfSome, false, is_some, fold, get_or, length, option_map, append_assoc, refl, sym, ap, subst, ◌∙◌, arith, slice_get, cases_lt, length_push, reverse-append, reverse-reverse, fold_push, same_Some, slice_get-get_or, slice_get_within, NameId, slice_get-front, AddsBelow, AreAfterThoseAbove, IsLocationBelow, location_below, locations_of, path_above, path_at, path_of, whole_location, with_stored, Extends, LocationId}
use Rattle.block_map.specs.declared.trie.location.Location.{Location}
use Rattle.block_map.specs.declared.trie.location.StoredLocation.{StoredLocation}
use Rattle.block_map.proofs.GrownTries.{Extends-again, Extends-none, slice_get-grown, slice_get-last}

-- one more is added with its whole path
pub locations_of-push : (items : List StoredLocation) (stored : StoredLocation) → locations_of (items ++ stored ∷ []) ≡ with_stored (locations_of items) stored
unfolding locations_of
locations_of-push items stored = fold_push with_stored [] items stored

length-fold : (locations : List Location) (items : List StoredLocation) → length (fold with_stored locations items) ≡ length locations + length items
length-fold locations [] = omega arith
length-fold locations (stored ∷ items) =
    omega (arith, length-fold (with_stored locations stored) items, length_push locations (whole_location locations stored))

pub length-locations_of : (items : List StoredLocation) → length (locations_of items) ≡ length items
unfolding locations_of
length-locations_of items = omega (arith, length-fold [] items)

pub AreAfterThoseAbove-push : (items : List StoredLocation) (stored : StoredLocation) → AreAfterThoseAbove items
    → IfSome stored.above (λ above. above.0 < length items) → AreAfterThoseAbove (items ++ stored ∷ [])
AreAfterThoseAbove-push items stored are after index each at = elim (cases_lt index (length items)) [
  | inl within ↦ are index each (sym (slice_get-front items (stored ∷ []) index within) ∙ at)
  | inr past ↦
      let inside = slice_get_within (items ++ stored ∷ []) index each at in
      let last : length items ≡ index = omega (arith, past, inside, length_push items stored) in
      let is : stored ≡ each = same_Some stored each (sym (slice_get-last items stored index (sym last)) ∙ at) in
      subst (λ (which : StoredLocation). IfSome which.above (λ above. above.0 < index)) is
      (subst (λ count. IfSome stored.above (λ above. above.0 < count)) last after)
]

-- the one that is read at a number of the list
pub stored_at : (items : List StoredLocation) (locations : List Location) (index : ℕ) (stored : StoredLocation) → locations_of items ≡ locations → index < length locations
    → stored ≡ get_or items index stored → slice_get items index ≡ Some stored
stored_at items locations index stored are within read =
    slice_get-get_or items index stored (omega (arith, within, ap length are, length-locations_of items)) ∙ ap Some (sym read)

-- ---- a location among others

-- more locations leave the path of one as it is
path_above-grown : (old new : List Location) → Extends old new → (above : Option LocationId) → IfSome above (λ id. id.0 < length old) → path_above new above ≡ path_above old above
path_above-grown old new grown None within = refl
path_above-grown old new grown (Some id) within =
    ap path_at (slice_get-grown old new id.0 grown within)

Extends-fold : (locations : List Location) (items : List StoredLocation) → Extends locations (fold with_stored locations items)
Extends-fold locations [] = Extends-none locations
Extends-fold locations (stored ∷ items) =
    let next = with_stored locations stored in
    Extends-again locations next (fold with_stored next items) (record { more = whole_location locations stored ∷ []; grown = refl }) (Extends-fold next items)

slice_get-fold : (locations : List Location) (items : List StoredLocation) (index : ℕ) (stored : StoredLocation) → slice_get items index ≡ Some stored
    → IfSome stored.above (λ above. above.0 < length locations + index)
    → slice_get (fold with_stored locations items) (length locations + index) ≡ Some (whole_location (fold with_stored locations items) stored)
slice_get-fold locations [] index stored at after = cc
slice_get-fold locations (first ∷ items) zero stored at after =
    let next = with_stored locations first in
    let all = fold with_stored next items in
    let is : first ≡ stored = same_Some first stored at in
    let here : length locations + 0 ≡ length locations = omega arith in
    let within : IfSome stored.above (λ above. above.0 < length locations) = subst (λ count. IfSome stored.above (λ above. above.0 < count)) here after in
    slice_get-grown next all (length locations + 0) (Extends-fold next items) (omega (arith, length_push locations (whole_location locations first)))
    ∙ slice_get-last locations (whole_location locations first) (length locations + 0) here
    ∙ ap (λ (which : StoredLocation). Some (whole_location locations which)) is
    ∙ ap (λ path. Some (record { path = path ++ stored.rest; tick = stored.tick }))
    (sym (path_above-grown locations all (Extends-fold locations (first ∷ items)) stored.above within))
slice_get-fold locations (first ∷ items) (suc index) stored at after =
    let next = with_stored locations first in
    let all = fold with_stored next items in
    let place : length next + index ≡ length locations + suc index = omega (arith, length_push locations (whole_location locations first)) in
    let within : IfSome stored.above (λ above. above.0 < length next + index) = subst (λ count. IfSome stored.above (λ above. above.0 < count)) (sym place) after in
    subst (λ count. slice_get all count ≡ Some (whole_location all stored)) place (slice_get-fold next items index stored at within)

-- it has its whole path
pub slice_get-locations_of : (items : List StoredLocation) (index : ℕ) (stored : StoredLocation) → AreAfterThoseAbove items → slice_get items index ≡ Some stored
    → slice_get (locations_of items) index ≡ Some (whole_location (locations_of items) stored)
unfolding locations_of
slice_get-locations_of items index stored are at =
    let start : 0 + index ≡ index = omega arith in
    let after : IfSome stored.above (λ above. above.0 < 0 + index) =
    subst (λ count. IfSome stored.above (λ above. above.0 < count)) (sym start) (are index stored at) in
    subst (λ count. slice_get (locations_of items) count ≡ Some (whole_location (locations_of items) stored)) start
    (slice_get-fold [] items index stored at after)

pub path_of-stored : (items : List StoredLocation) (id : LocationId) (stored : StoredLocation) → AreAfterThoseAbove items → slice_get items id.0 ≡ Some stored
    → path_of (locations_of items) id ≡ path_above (locations_of items) stored.above ++ stored.rest
path_of-stored items id stored are at = ap path_at (slice_get-locations_of items id.0 stored are at)

-- no location is above it
pub none_above : (above : Option LocationId) → is_some above ≡ false → above ≡ None
none_above None is = refl
none_above (Some id) is = cc

-- one that is above none and has no components is at the root
pub at_root-stored : (items : List StoredLocation) (id : LocationId) (stored : StoredLocation) → AreAfterThoseAbove items → slice_get items id.0 ≡ Some stored
    → is_some stored.above ≡ false → stored.rest ≡ [] → slice_get (locations_of items) id.0 ≡ Some (record { path = []; tick = stored.tick })
at_root-stored items id stored are at above rest =
    slice_get-locations_of items id.0 stored are at
    ∙ ap (λ outer. Some (record { path = path_above (locations_of items) outer ++ stored.rest; tick = stored.tick })) (none_above stored.above above)
    ∙ ap (λ path. Some (record { path = path; tick = stored.tick })) rest

-- and the tick that is kept
pub IsLocationBelow-stored : (items : List StoredLocation) (id : LocationId) (stored : StoredLocation) (rest path : List NameId) → AreAfterThoseAbove items
    → slice_get items id.0 ≡ Some stored → path ≡ path_of (locations_of items) id ++ rest → IsLocationBelow (locations_of items) id rest (record { path = path; tick = stored.tick })
IsLocationBelow-stored items id stored rest path are at is =
    ap (option_map (location_below rest)) (slice_get-locations_of items id.0 stored are at)
    ∙ ap (λ whole. Some (record { path = whole; tick = stored.tick })) (ap (λ front. front ++ rest) (sym (path_of-stored items id stored are at)) ∙ sym is)

pub AddsBelow-stored : (items : List StoredLocation) (id : LocationId) (stored : StoredLocation) (rest : List NameId) (new : List Location) → AreAfterThoseAbove items
    → slice_get items id.0 ≡ Some stored → new ≡ with_stored (locations_of items) (record { above = Some id; rest = rest; tick = stored.tick })
    → AddsBelow (locations_of items) new id rest
AddsBelow-stored items id stored rest new are at is =
    let path = path_of (locations_of items) id ++ rest in
    record { location = record { path = path; tick = stored.tick }; below = IsLocationBelow-stored items id stored rest path are at refl; added = is }

-- the one above it is one of them
pub above-within : (items : List StoredLocation) (index : ℕ) (stored : StoredLocation) → AreAfterThoseAbove items → slice_get items index ≡ Some stored
    → IfSome stored.above (λ above. above.0 < length (locations_of items))
above-within items index stored are at = by stored.above (are index stored at)
  where
    by : (above : Option LocationId) → IfSome above (λ id. id.0 < index) → IfSome above (λ id. id.0 < length (locations_of items))
    by None before = tt
    by (Some id) before = omega (arith, before, slice_get_within items index stored at, length-locations_of items)

-- ---- from a location up

-- no more locations are above it
abbrev pub most_above : Option LocationId → ℕ
most_above None = 0
most_above (Some id) = id.0 + 1

pub most_above-smaller : (above next : Option LocationId) (id : LocationId) → above ≡ Some id → IfSome next (λ each. each.0 < id.0) → most_above next < most_above above
most_above-smaller above next id is before = subst (λ each. most_above next < most_above each) (sym is) (by next before)
  where
    by : (next : Option LocationId) → IfSome next (λ each. each.0 < id.0) → most_above next < most_above (Some id)
    by None before = omega arith
    by (Some each) before = omega (arith, before)

-- the last components of a path below a location, the last one first, down to those of a location above it
pub record AreCollected (locations : List Location) (id : LocationId) (rest : List NameId) (top : StoredLocation) (parts : List NameId) : Type 0 where
  pub within : IfSome top.above (λ above. above.0 < length locations)
  pub same : path_above locations top.above ++ top.rest ++ reverse parts ≡ path_of locations id ++ rest

pub AreCollected-first : (items : List StoredLocation) (id : LocationId) (stored : StoredLocation) (rest parts : List NameId) → AreAfterThoseAbove items
    → slice_get items id.0 ≡ Some stored → parts ≡ reverse rest → AreCollected (locations_of items) id rest stored parts
AreCollected-first items id stored rest parts are at is = record {
  within = above-within items id.0 stored are at;
  same = ap (λ back. path_above (locations_of items) stored.above ++ stored.rest ++ back) (ap reverse is ∙ reverse-reverse rest)
      ∙ ap (λ front. front ++ rest) (sym (path_of-stored items id stored are at));
}

pub AreCollected-up : (items : List StoredLocation) (id : LocationId) (rest : List NameId) (top next : StoredLocation) (above : LocationId) (parts more : List NameId)
    → AreAfterThoseAbove items → top.above ≡ Some above → slice_get items above.0 ≡ Some next → more ≡ parts ++ reverse top.rest
    → AreCollected (locations_of items) id rest top parts → AreCollected (locations_of items) id rest next more
AreCollected-up items id rest top next above parts more are up at is before =
    let locations = locations_of items in
    let back : reverse more ≡ top.rest ++ reverse parts =
    ap reverse is ∙ reverse-append parts (reverse top.rest) ∙ ap (λ front. front ++ reverse parts) (reverse-reverse top.rest) in
    record {
      within = above-within items above.0 next are at;
      same = ap (λ front. front ++ reverse more) (sym (path_of-stored items above next are at)) ∙ ap (λ end. path_of locations above ++ end) back
          ∙ sym (append_assoc (path_of locations above) top.rest (reverse parts)) ∙ ap (λ each. path_above locations each ++ top.rest ++ reverse parts) (sym up) ∙ before.same;
    }
