-- What a path holds of a value has a revision exactly where the value has it for what is above.
use Rattle.query_answer.proofs.Common.{◌≡◌, ℕ, ◌-◌, ◌<◌, ◌==◌, Bool, not, false, List, [], ◌∷◌, ◌++◌, Option, Some, None, drop, length, take, inl, inr, refl, sym, ap, ◌∙◌, arith, eqb-true, if◌then◌else◌, take-append-drop, option_and_then, both_ways, cases_Bool, false_from_ne_true, All-take, drop-map, drop_all, length-append, length-map, map-append, take_all, path_text, IsTable, name_of, IsPathOf, components_of, same_name, NameId, components_of-components, components_of-same, IsMergeInfo, MergeInfoValue, runs_at, some_runs, own_or_below, path_above, ranges_at, value_has}
use Rattle.std.specs.Cmp.Lexicographic.{pointwise}
use Rattle.std.proofs.Math.Seq.{drop-append_seam}
use Rattle.range_list.specs.Rangelist.{inheritability_of}
use Rattle.range_list.specs.declared.run.Run.{Run}
use Rattle.svn_path.proofs.Orders.{paths_eq-Decides}
use Rattle.merge_info.specs.CanonicalValue.{canonical_value, inherited_value}
use Rattle.merge_info.specs.Inherited.{inherited_revision}
use Rattle.merge_info.proofs.InheritedRevisions.{inherited-below, inherited-other}

-- whether the revisions have one, if there are any
abbrev pub some_have : Option (List Run) → ℕ → Option Bool
some_have ranges rev = option_and_then (λ runs. inheritability_of runs rev) ranges

-- the ranges of a path have a revision if the value has it
pub some_have-ranges_at : (names : List (List ℕ)) (value : MergeInfoValue) (path : List NameId) (rev : ℕ)
    → some_have (ranges_at names value path) rev ≡ value_has value (components_of names path) rev
some_have-ranges_at names value path rev = by_runs (runs_at value (path_text (components_of names path)))
  where
    by_runs : (runs : List Run) → some_have (some_runs runs) rev ≡ inheritability_of runs rev
    by_runs [] = refl
    by_runs (run ∷ runs) = refl

-- nothing is inherited of the empty value
pub own_or_below-empty : (rest : List (List ℕ)) → own_or_below rest [] ≡ []
unfolding canonical_value
own_or_below-empty [] = refl
own_or_below-empty (part ∷ rest) = refl

-- ---- what is above a path

path_above-all : (path : List NameId) → path_above [] path ≡ Some path
path_above-all path =
    let all : length path - 0 ≡ length path = omega arith in
    rw (all, drop_all (length path) path (omega arith), take_all (length path) path (omega arith)) refl

module _ (names : List (List ℕ)) (table : IsTable names) (rest path : List NameId) where
  -- the path ends with the rest
  ends_with : drop (length path - length rest) path ≡ rest
      → components_of names path ≡ components_of names (take (length path - length rest) path) ++ components_of names rest
  ends_with same =
      let k = length path - length rest in
      ap (components_of names) (sym (take-append-drop k path))
      ∙ map-append (λ name. name_of names name.0) (take k path) (drop k path)
      ∙ ap (λ back. components_of names (take k path) ++ components_of names back) same

  -- it does not, so its components do not
  ends_otherwise : (pointwise same_name (drop (length path - length rest) path) rest ≡ false)
      → (above : List (List ℕ)) → components_of names path ≡ above ++ components_of names rest → ⊥
  ends_otherwise other above same =
      let k = length path - length rest in
      let seam : length above ≡ k =
      omega (arith, sym (length-map path (λ name. name_of names name.0)) ∙ ap length same, length-append above (components_of names rest), length-map rest (λ name. name_of names name.0)) in
      let back : components_of names (drop k path) ≡ components_of names rest =
      sym (drop-map (λ name. name_of names name.0) k path) ∙ ap (drop k) same ∙ ap (λ n. drop n (above ++ components_of names rest)) (sym seam) ∙ drop-append_seam above (components_of names rest) in
      both_ways _ other ((paths_eq-Decides (drop k path) rest).1 (components_of-same table (drop k path) rest back))

-- ---- by what the path has below that of the value

module _ (names : List (List ℕ)) (table : IsTable names) (value : MergeInfoValue) (is : IsMergeInfo value) (path : List NameId) (of : IsPathOf names path) (rev : ℕ) where
  -- what the value has for what is above the path
  abbrev above_has : List NameId → Option Bool
  above_has rest = some_have (option_and_then (ranges_at names value) (path_above rest path)) rev

  inherited-has : (rest : List NameId) → IsPathOf names rest
      → inherited_revision (above_has rest) ≡ value_has (inherited_value (path_text (components_of names rest)) value) (components_of names path) rev
  inherited-has rest rest_of =
      elim (cases_Bool (pointwise same_name (drop (length path - length rest) path) rest)) [
        | inl ends ↦
            let k = length path - length rest in
            let above = take k path in
            let found : path_above rest path ≡ Some above = ap (λ b. if b then Some above else None) ends in
            ap (λ front. inherited_revision (some_have (option_and_then (ranges_at names value) front) rev)) found
            ∙ ap inherited_revision (some_have-ranges_at names value above rev)
            ∙ sym (ap (λ all. value_has (inherited_value (path_text (components_of names rest)) value) all rev) (ends_with names table rest path ((paths_eq-Decides (drop k path) rest).0 ends))
            ∙ inherited-below (components_of names rest) (components_of-components names rest table.components rest_of) value is (components_of names above) rev (components_of-components names above table.components (of_take k)))
        | inr other ↦
            let k = length path - length rest in
            let found : path_above rest path ≡ None = ap (λ b. if b then Some (take k path) else None) other in
            ap (λ front. inherited_revision (some_have (option_and_then (ranges_at names value) front) rev)) found
            ∙ sym (inherited-other (components_of names rest) (components_of-components names rest table.components rest_of) value is (components_of names path) rev (components_of-components names path table.components of) (ends_otherwise names table rest path other))
      ]
    where
      of_take : (k : ℕ) → IsPathOf names (take k path)
      of_take k = All-take (λ (name : NameId). name.0 < length names) k path of

  -- the value itself for a path that has it, and what is inherited for one below
  pub held-has : (rest : List NameId) → IsPathOf names rest
      → (if not (length rest == 0) then inherited_revision (above_has rest) else above_has rest) ≡ value_has (own_or_below (components_of names rest) value) (components_of names path) rev
  held-has [] rest_of = ap (λ front. some_have (option_and_then (ranges_at names value) front) rev) (path_above-all path) ∙ some_have-ranges_at names value path rev
  held-has (part ∷ rest) rest_of =
      let some : (length (part ∷ rest) == 0) ≡ false = false_from_ne_true _ (λ none. omega (arith, eqb-true (length (part ∷ rest)) 0 none)) in
      ap (λ b. if not b then inherited_revision (above_has (part ∷ rest)) else above_has (part ∷ rest)) some ∙ inherited-has (part ∷ rest) rest_of
