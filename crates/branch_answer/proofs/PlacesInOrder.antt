-- The paths at and below one follow one another in the order of paths.
use Rattle.std.proofs.Common.{◌≡◌, ◌∙◌, ◌++◌, ◌<◌, ◌&&◌, Bool, true, false, List, [], ◌∷◌, suc, All, Option, None, Some, arith, ap, drop, filter, length, get_or, refl, sym, option_map, is_some, eq-eqb, eqb-true, ne_eqb, if◌then◌else◌}
use Rattle.std.proofs.lemmas.Bool.{both_ways, false_from_ne_true}
use Rattle.std.proofs.lemmas.Cmp.{nat_cmp_total, ranked, tied_itself}
use Rattle.std.proofs.lemmas.List.Elements.{All-head, All-tail, filter_passes}
use Rattle.std.proofs.lemmas.List.Kept.{AllPairs-filter}
use Rattle.std.proofs.lemmas.Map.Keys.{Less-from_sorted}
use Rattle.std.specs.BTreeMap.Range.{range_contains}
use Rattle.std.specs.List.Sorted.{IsStrictlySortedBy}
use Rattle.std.specs.declared.ops.Bound.TheVariants.{Included, Unbounded}
use Rattle.svn_path.proofs.Belows.{IsSame-same_name, drop-from_below}
use Rattle.std.specs.Cmp.Lexicographic.{slice_cmp}
use Rattle.std.specs.List.{cons_option, AllPairs}
use Rattle.std.specs.Ordering.{is_le, nat_cmp, ordering_then}
use Rattle.std.specs.declared.cmp.Ordering.{Ordering}
use Rattle.std.specs.declared.cmp.Ordering.TheVariants.{Less, Equal, Greater}
use Rattle.svn_path.specs.Below.{below, is_below}
use Rattle.svn_path.specs.Path.{same_name}
use Rattle.svn_path.specs.PathOrder.{name_cmp}
use Rattle.svn_path.specs.declared.names.NameId.{NameId}
use Rattle.path_index.specs.Copies.{Copy}
use Rattle.branch_answer.specs.KeptDescendants.{place_by_copy, places_by_copy}

abbrev pub path_cmp : List NameId → List NameId → Ordering
path_cmp = slice_cmp name_cmp

-- ---- a path and those at and below it

-- equal names compare so
equal_names : (f c : NameId) → same_name f c ≡ true → name_cmp f c ≡ Equal
equal_names f c same = ap (nat_cmp f.0) (sym (eqb-true f.0 c.0 same)) ∙ tied_itself nat_cmp_total f.0

-- they do not come before it
below_is_le : (from path : List NameId) → is_below same_name from path ≡ true → is_le (path_cmp from path) ≡ true
below_is_le [] [] under = refl
below_is_le [] (c ∷ path) under = refl
below_is_le (f ∷ from) [] under = absurd (both_ways _ refl under)
below_is_le (f ∷ from) (c ∷ path) under = by (same_name f c) refl under (below_is_le from path)
  where
    by : (b : Bool) → same_name f c ≡ b → is_some (if b then below same_name from path else None) ≡ true
        → (is_below same_name from path ≡ true → is_le (path_cmp from path) ≡ true) → is_le (ordering_then (name_cmp f c) (path_cmp from path)) ≡ true
    by true same under rest = ap (λ o. is_le (ordering_then o (path_cmp from path))) (equal_names f c same) ∙ rest under
    by false other under rest = absurd (both_ways _ refl under)

-- what comes after a path that is not below it, and not before it, is not below it either
later_not_below : (from place later : List NameId) → is_le (path_cmp from place) ≡ true → is_below same_name from place ≡ false → path_cmp place later ≡ Less
    → is_below same_name from later ≡ false
later_not_below [] place later from_on outside less = absurd (both_ways _ outside refl)
later_not_below (f ∷ from) [] later from_on outside less = absurd (both_ways _ refl from_on)
later_not_below (f ∷ from) (c ∷ place) [] from_on outside less = cc
later_not_below (f ∷ from) (c ∷ place) (d ∷ later) from_on outside less =
    by (name_cmp f c) refl (name_cmp c d) refl from_on less (later_not_below from place later)
  where
    apart : f.0 < d.0 → is_some (if same_name f d then below same_name from later else None) ≡ false
    apart low = ap (λ b. is_some (if b then below same_name from later else None)) (ne_eqb f.0 d.0 (λ e. omega (arith, e, low)))

    by : (o : Ordering) → o ≡ name_cmp f c → (p : Ordering) → p ≡ name_cmp c d → is_le (ordering_then o (path_cmp from place)) ≡ true → ordering_then p (path_cmp place later) ≡ Less
        → (is_le (path_cmp from place) ≡ true → is_below same_name from place ≡ false → path_cmp place later ≡ Less → is_below same_name from later ≡ false)
        → is_some (if same_name f d then below same_name from later else None) ≡ false
    by Less one Less two from_on less rest = apart (let low = ranked f.0 c.0 Less one in let next = ranked c.0 d.0 Less two in omega (arith, low, next))
    by Less one Equal two from_on less rest = apart (let low = ranked f.0 c.0 Less one in let next = ranked c.0 d.0 Equal two in omega (arith, low, next))
    by Less one Greater two from_on less rest = cc
    by Equal one Less two from_on less rest = apart (let low = ranked f.0 c.0 Equal one in let next = ranked c.0 d.0 Less two in omega (arith, low, next))
    by Equal one Equal two from_on less rest =
        let first = ranked f.0 c.0 Equal one in
        let second = ranked c.0 d.0 Equal two in
        let here : same_name f c ≡ true = eq-eqb f.0 c.0 first in
        let there : same_name f d ≡ true = eq-eqb f.0 d.0 (first ∙ second) in
        let still : is_below same_name from place ≡ false = ap (λ b. is_some (if b then below same_name from place else None)) (sym here) ∙ outside in
        ap (λ b. is_some (if b then below same_name from later else None)) there ∙ rest from_on still less
    by Equal one Greater two from_on less rest = cc
    by Greater one p two from_on less rest = absurd (both_ways _ refl from_on)

-- ---- where a copy takes them

module _ (copy : Copy) where
  not_taken : (path : List NameId) → is_below same_name copy.from path ≡ false → place_by_copy copy path ≡ None
  not_taken path outside = by (below same_name copy.from path) outside
    where
      by : (left : Option (List NameId)) → is_some left ≡ false → option_map (λ rest. copy.to ++ rest) left ≡ None
      by None outside = refl
      by (Some rest) outside = absurd (both_ways _ outside refl)

  none_taken : (paths : List (List NameId)) → All (λ path. is_below same_name copy.from path ≡ false) paths → places_by_copy copy paths ≡ []
  none_taken [] outside = refl
  none_taken (path ∷ paths) outside =
      ap (λ o. cons_option o (places_by_copy copy paths)) (not_taken path (All-head (λ each. is_below same_name copy.from each ≡ false) path paths outside))
      ∙ none_taken paths (All-tail (λ each. is_below same_name copy.from each ≡ false) path paths outside)

  -- paths in order, none of which is before the source
  pub record AreFrom (paths : List (List NameId)) : Type 0 where
    pub rising : AllPairs (λ one later. path_cmp one later ≡ Less) paths
    pub from_on : All (λ path. is_le (path_cmp copy.from path) ≡ true) paths

  pub AreFrom-tail : (path : List NameId) (paths : List (List NameId)) → AreFrom (path ∷ paths) → AreFrom paths
  AreFrom-tail path paths are = record {
    rising = λ i j d before within. are.rising (suc i) (suc j) d (omega (arith, before)) (omega (arith, within));
    from_on = All-tail (λ each. is_le (path_cmp copy.from each) ≡ true) path paths are.from_on;
  }

  -- from the first that is not below the source on, the copy takes none
  pub none_after : (path : List NameId) (paths : List (List NameId)) → AreFrom (path ∷ paths) → is_below same_name copy.from path ≡ false → places_by_copy copy (path ∷ paths) ≡ []
  none_after path paths are outside =
      let here = All-head (λ each. is_le (path_cmp copy.from each) ≡ true) path paths are.from_on in
      ap (λ o. cons_option o (places_by_copy copy paths)) (not_taken path outside)
      ∙ none_taken paths (λ k d within. later_not_below copy.from path (get_or paths k d) here outside (are.rising 0 (suc k) d (omega arith) (omega (arith, within))))

  -- one that is
  pub taken_first : (path : List NameId) (paths : List (List NameId)) → is_below same_name copy.from path ≡ true
      → places_by_copy copy (path ∷ paths) ≡ (copy.to ++ drop (length copy.from) path) ∷ places_by_copy copy paths
  taken_first path paths under = by (below same_name copy.from path) refl under
    where
      by : (left : Option (List NameId)) → below same_name copy.from path ≡ left → is_some left ≡ true
          → cons_option (option_map (λ rest. copy.to ++ rest) left) (places_by_copy copy paths) ≡ (copy.to ++ drop (length copy.from) path) ∷ places_by_copy copy paths
      by None at under = absurd (both_ways _ refl under)
      by (Some rest) at under = ap (λ more. (copy.to ++ more) ∷ places_by_copy copy paths) (sym (drop-from_below IsSame-same_name copy.from path rest at))

  -- the paths from the source on
  abbrev pub is_from : List NameId → Bool
  is_from path = range_contains path_cmp (Included copy.from) Unbounded path

  is_from-le : (path : List NameId) → is_from path ≡ is_le (path_cmp copy.from path)
  is_from-le path = elim (is_le (path_cmp copy.from path)) as (λ b. (b && true) ≡ b) [ true ↦ refl | false ↦ refl ]

  -- the others are not taken
  pub places_by_copy-from : (paths : List (List NameId)) → places_by_copy copy (filter is_from paths) ≡ places_by_copy copy paths
  places_by_copy-from [] = refl
  places_by_copy-from (path ∷ paths) = by (is_from path) refl (places_by_copy-from paths)
    where
      by : (b : Bool) → is_from path ≡ b → places_by_copy copy (filter is_from paths) ≡ places_by_copy copy paths
          → places_by_copy copy (if b then path ∷ filter is_from paths else filter is_from paths) ≡ places_by_copy copy (path ∷ paths)
      by true from rest = ap (cons_option (place_by_copy copy path)) rest
      by false before rest =
          let outside : is_below same_name copy.from path ≡ false =
          false_from_ne_true _ (λ under. both_ways _ (sym (is_from-le path) ∙ before) (below_is_le copy.from path under)) in
          rest ∙ ap (λ o. cons_option o (places_by_copy copy paths)) (sym (not_taken path outside))

  pub AreFrom-range : (paths : List (List NameId)) → IsStrictlySortedBy path_cmp paths → AreFrom (filter is_from paths)
  AreFrom-range paths sorted = record {
    rising = AllPairs-filter (λ one later. path_cmp one later ≡ Less) is_from paths (λ i j d before within. Less-from_sorted path_cmp paths i j d sorted before within);
    from_on = λ k d within. sym (is_from-le (get_or (filter is_from paths) k d)) ∙ filter_passes is_from paths k d within;
  }
