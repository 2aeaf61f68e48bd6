-- The places to which copies take a path.
use Rattle.std.proofs.Common.{◌≡◌, ◌∙◌, ◌++◌, ◌<◌, ◌⊎◌, true, false, if◌then◌else◌, List, [], ◌∷◌, ℕ, nat_le, All, Option, None, Some, IfSome, ap, arith, fold, inl, inr, length, option_map, refl, sym, subst}
use Rattle.std.proofs.lemmas.List.Elements.{All-append, All-drop, All-head, All-tail, All-weaker}
use Rattle.std.proofs.lemmas.Map.Views.{All-insert_key}
use Rattle.std.specs.BTreeSet.{insert_key}
use Rattle.std.specs.List.{Contains}
use Rattle.std.specs.Ordering.{is_eq, match_ordering}
use Rattle.std.specs.declared.cmp.Ordering.{Ordering}
use Rattle.std.specs.declared.cmp.Ordering.TheVariants.{Less, Equal, Greater}
use Rattle.svn_path.proofs.Belows.{IsSame-same_name, drop-from_below}
use Rattle.svn_path.proofs.Orders.{paths_eq-Decides}
use Rattle.svn_path.specs.Below.{below}
use Rattle.svn_path.specs.Path.{IsPathOf, same_name}
use Rattle.svn_path.specs.PathOrder.{paths_ties}
use Rattle.svn_path.specs.declared.names.NameId.{NameId}
use Rattle.path_index.specs.Copies.{Copy}
use Rattle.query_answer.proofs.TreeEntries.{All-filter_map}
use Rattle.branch_answer.proofs.FirstPaths.{Contains-cons, Contains-split}
use Rattle.branch_answer.proofs.Membership.{Contains-filter_map}
use Rattle.branch_answer.proofs.PlacesInOrder.{path_cmp}
use Rattle.branch_answer.specs.KeptDescendants.{place_by_copy, places_after, places_by_copy, with_paths}

abbrev Paths : Type 0
Paths = List (List NameId)

-- paths that compare alike are one
same_paths : (one other : List NameId) → path_cmp one other ≡ Equal → one ≡ other
same_paths one other alike = (paths_eq-Decides one other).0 (paths_ties one other ∙ ap is_eq alike)

-- ---- one path more

insert_key-new : (paths : Paths) (path : List NameId) → Contains (insert_key path_cmp paths path) path
insert_key-new [] path = Contains-cons path [] path (inl refl)
insert_key-new (each ∷ paths) path = by (path_cmp path each) refl (insert_key-new paths path)
  where
    by : (o : Ordering) → path_cmp path each ≡ o → Contains (insert_key path_cmp paths path) path
        → Contains (match_ordering o (path ∷ each ∷ paths) (each ∷ paths) (each ∷ insert_key path_cmp paths path)) path
    by Less at rest = Contains-cons path (each ∷ paths) path (inl refl)
    by Equal at rest = Contains-cons each paths path (inl (same_paths path each at))
    by Greater at rest = Contains-cons each (insert_key path_cmp paths path) path (inr rest)

insert_key-old : (paths : Paths) (path other : List NameId) → Contains paths other → Contains (insert_key path_cmp paths path) other
insert_key-old [] path other has = Contains-cons path [] other (inr has)
insert_key-old (each ∷ paths) path other has = by (path_cmp path each) (Contains-split each paths other has) (insert_key-old paths path other)
  where
    later : (other ≡ each) ⊎ Contains paths other → (Contains paths other → Contains (insert_key path_cmp paths path) other)
        → (other ≡ each) ⊎ Contains (insert_key path_cmp paths path) other
    later (inl is) rest = inl is
    later (inr more) rest = inr (rest more)

    by : (o : Ordering) → (other ≡ each) ⊎ Contains paths other → (Contains paths other → Contains (insert_key path_cmp paths path) other)
        → Contains (match_ordering o (path ∷ each ∷ paths) (each ∷ paths) (each ∷ insert_key path_cmp paths path)) other
    by Less among rest = Contains-cons path (each ∷ paths) other (inr has)
    by Equal among rest = has
    by Greater among rest = Contains-cons each (insert_key path_cmp paths path) other (later among rest)

-- ---- some paths more

with_paths-old : (more paths : Paths) (other : List NameId) → Contains paths other → Contains (with_paths paths more) other
with_paths-old [] paths other has = has
with_paths-old (path ∷ more) paths other has = with_paths-old more (insert_key path_cmp paths path) other (insert_key-old paths path other has)

with_paths-new : (more paths : Paths) (other : List NameId) → Contains more other → Contains (with_paths paths more) other
with_paths-new [] paths other has = absurd (omega (arith, has.1))
with_paths-new (path ∷ more) paths other has = by (Contains-split path more other has) (with_paths-new more (insert_key path_cmp paths path) other)
  where
    by : (other ≡ path) ⊎ Contains more other → (Contains more other → Contains (with_paths (insert_key path_cmp paths path) more) other)
        → Contains (with_paths (insert_key path_cmp paths path) more) other
    by (inl is) rest = with_paths-old more (insert_key path_cmp paths path) other (subst (Contains (insert_key path_cmp paths path)) (sym is) (insert_key-new paths path))
    by (inr later) rest = rest later

-- ---- after copies

module _ (first : ℕ) where
  after-old : (places : Paths) (copy : Copy) (path : List NameId) → Contains places path → Contains (places_after first places copy) path
  after-old places copy path has =
      elim (nat_le first copy.from_rev) as (λ b. Contains (if b then with_paths places (places_by_copy copy places) else places) path) [
        | true ↦ with_paths-old (places_by_copy copy places) places path has
        | false ↦ has
      ]

  after-new : (places : Paths) (copy : Copy) (path next : List NameId) → Contains places path → nat_le first copy.from_rev ≡ true → place_by_copy copy path ≡ Some next
      → Contains (places_after first places copy) next
  after-new places copy path next has late taken =
      subst (λ b. Contains (if b then with_paths places (places_by_copy copy places) else places) next) (sym late)
      (with_paths-new (places_by_copy copy places) places next (Contains-filter_map (place_by_copy copy) places path next has taken))

  -- places stay
  pub places-stay : (copies : List Copy) (places : Paths) (path : List NameId) → Contains places path → Contains (fold (places_after first) places copies) path
  places-stay [] places path has = has
  places-stay (copy ∷ copies) places path has = places-stay copies (places_after first places copy) path (after-old places copy path has)

  -- and where a copy takes one comes to them
  pub places-come : (copies : List Copy) (places : Paths) (copy : Copy) (path next : List NameId) → Contains copies copy → Contains places path
      → nat_le first copy.from_rev ≡ true → place_by_copy copy path ≡ Some next → Contains (fold (places_after first) places copies) next
  places-come [] places copy path next among has late taken = absurd (omega (arith, among.1))
  places-come (each ∷ copies) places copy path next among has late taken =
      by (Contains-split each copies copy among) (λ later. places-come copies (places_after first places each) copy path next later (after-old places each path has) late taken)
    where
      by : (copy ≡ each) ⊎ Contains copies copy → (Contains copies copy → Contains (fold (places_after first) (places_after first places each) copies) next)
          → Contains (fold (places_after first) (places_after first places each) copies) next
      by (inl is) rest =
          places-stay copies (places_after first places each) next
          (subst (λ one. Contains (places_after first places one) next) is (after-new places copy path next has late taken))
      by (inr later) rest = rest later

-- ---- their names

module _ (names : List (List ℕ)) where
  All-with_paths : (more paths : Paths) → All (IsPathOf names) paths → All (IsPathOf names) more → All (IsPathOf names) (with_paths paths more)
  All-with_paths [] paths all others = all
  All-with_paths (path ∷ more) paths all others =
      All-with_paths more (insert_key path_cmp paths path)
      (All-insert_key path_cmp path (IsPathOf names) paths all (All-head (IsPathOf names) path more others))
      (All-tail (IsPathOf names) path more others)

  taken-of_names : (copy : Copy) (path : List NameId) → IsPathOf names copy.to → IsPathOf names path → IfSome (place_by_copy copy path) (IsPathOf names)
  taken-of_names copy path to of = by (below same_name copy.from path) refl
    where
      by : (left : Option (List NameId)) → below same_name copy.from path ≡ left → IfSome (option_map (λ rest. copy.to ++ rest) left) (IsPathOf names)
      by None at = tt
      by (Some rest) at =
          let Named = λ (id : NameId). id.0 < length names in
          All-append Named copy.to rest to
          (subst (All Named) (drop-from_below IsSame-same_name copy.from path rest at) (All-drop Named (length copy.from) path of))

  after-of_names : (first : ℕ) (places : Paths) (copy : Copy) → IsPathOf names copy.to → All (IsPathOf names) places → All (IsPathOf names) (places_after first places copy)
  after-of_names first places copy to all =
      elim (nat_le first copy.from_rev) as (λ b. All (IsPathOf names) (if b then with_paths places (places_by_copy copy places) else places)) [
        | true ↦
            All-with_paths (places_by_copy copy places) places all
            (All-filter_map (place_by_copy copy) (IsPathOf names) places
            (All-weaker (IsPathOf names) (λ path. IfSome (place_by_copy copy path) (IsPathOf names)) (λ path of. taken-of_names copy path to of) places all))
        | false ↦ all
      ]

  -- the places have the names of the path and of the copies
  pub places-of_names : (first : ℕ) (copies : List Copy) (places : Paths) → All (λ copy. IsPathOf names copy.to) copies → All (IsPathOf names) places
      → All (IsPathOf names) (fold (places_after first) places copies)
  places-of_names first [] places to all = all
  places-of_names first (copy ∷ copies) places to all =
      places-of_names first copies (places_after first places copy) (All-tail (λ each. IsPathOf names each.to) copy copies to)
      (after-of_names first places copy (All-head (λ each. IsPathOf names each.to) copy copies to) all)
