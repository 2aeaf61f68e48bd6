-- Paths that are in the same order whatever follows them.
use Rattle.merge_info.proofs.Common.{◌≡◌, ◌≢◌, ℕ, suc, ◌==◌, Bool, true, false, List, [], ◌∷◌, ◌++◌, All, length, map, inl, inr, refl, sym, ap, ◌∙◌, add-one, arith, slice_cmp, AllAdjacentBelow, IsAllAdjacentAnswer, nat_cmp, Less, Equal, and_parts, both_ways, cases_Bool, eqb-true, ltb-true, not-true, common_steps, All-head, All-tail, bytes_eq-Decides, parts_of, parts_text, path_text, KeepTheirOrder, inherited_lines, is_before_below, path_below, stays_before, IsPrintedPath, AreRising, IsEntry, entry_view, Entry}
use Rattle.std.specs.Bool.{OnTrue}
use Rattle.std.specs.Cmp.{nat_cmp_is}

-- ---- what follows a path

-- a path that is not the root is followed by components
path_below-parts_text : (path rest : List ℕ) → IsPrintedPath path → path ≢ 47 ∷ []
    → path_below path rest ≡ path ++ parts_text (parts_of rest)
path_below-parts_text path rest printed other = by (parts_of path) printed.printed
  where
    by : (parts : List (List ℕ)) → path_text parts ≡ path
        → path_text (parts ++ parts_of rest) ≡ path ++ parts_text (parts_of rest)
    by [] is = absurd (other (sym is))
    by (part ∷ parts) is = grind (arith, common_steps)

-- ---- two paths

-- whatever components follow
slice_cmp-stays_before : (path next : List ℕ) (rest : List (List ℕ)) → stays_before path next ≡ true
    → slice_cmp nat_cmp (path ++ parts_text rest) (next ++ parts_text rest) ≡ Less
slice_cmp-stays_before [] [] rest tested = cc
slice_cmp-stays_before [] (byte ∷ next) [] tested = refl
slice_cmp-stays_before [] (byte ∷ next) (part ∷ rest) tested =
    rw (← nat_cmp_is 47 byte Less (ltb-true 47 byte tested)) refl
slice_cmp-stays_before (byte ∷ path) [] rest tested = cc
slice_cmp-stays_before (byte ∷ path) (other ∷ next) rest tested = elim (cases_Bool (byte == other)) [
  | inl same ↦
      rw (← nat_cmp_is byte other Equal (eqb-true byte other same))
      (slice_cmp-stays_before path next rest (rw same at tested))
  | inr differs ↦ rw (← nat_cmp_is byte other Less (ltb-true byte other (rw differs at tested))) refl
]

-- the next path is not the root
stays_before-root : (path : List ℕ) → IsPrintedPath path → stays_before path (47 ∷ []) ≡ true → ⊥
stays_before-root path printed tested =
    by (parts_of path) (ap (λ each. stays_before each (47 ∷ [])) printed.printed ∙ tested)
  where
    none : (bytes : List ℕ) → stays_before bytes [] ≡ true → ⊥
    none [] is = cc
    none (byte ∷ bytes) is = cc

    by : (parts : List (List ℕ)) → stays_before (path_text parts) (47 ∷ []) ≡ true → ⊥
    by [] is = none [] is
    by (part ∷ parts) is = none (part ++ parts_text parts) is

slice_cmp-is_before_below : (path next rest : List ℕ) → IsPrintedPath path → IsPrintedPath next
    → is_before_below path next ≡ true
    → slice_cmp nat_cmp (path_below path rest) (path_below next rest) ≡ Less
slice_cmp-is_before_below path next rest first second tested =
    let (other, stays) = and_parts _ _ tested in
    let no_root : path ≢ 47 ∷ [] = λ root. both_ways _ (not-true _ other) ((bytes_eq-Decides path (47 ∷ [])).1 root) in
    let next_no_root : next ≢ 47 ∷ [] =
    λ root. stays_before-root path first (ap (stays_before path) (sym root) ∙ stays) in
    rw (path_below-parts_text path rest first no_root, path_below-parts_text next rest second next_no_root)
    (slice_cmp-stays_before path next (parts_of rest) stays)

-- ---- entries in which each path was tested with the next

AreRising-adjacent : (rest : List ℕ) (entries : List Entry) → All IsEntry (map entry_view entries)
    → AllAdjacentBelow (λ a b. is_before_below a.path.items b.path.items ≡ true) entries (length entries)
    → AreRising (inherited_lines rest (map entry_view entries))
AreRising-adjacent rest [] are_entries adjacent = tt
AreRising-adjacent rest (entry ∷ []) are_entries adjacent = tt
AreRising-adjacent rest (entry ∷ next ∷ entries) are_entries adjacent =
    let others = All-tail IsEntry (entry_view entry) (map entry_view (next ∷ entries)) are_entries in (
      slice_cmp-is_before_below entry.path.items next.path.items rest
          (All-head IsEntry (entry_view entry) (map entry_view (next ∷ entries)) are_entries).path
          (All-head IsEntry (entry_view next) (map entry_view entries) others).path (adjacent 0 entry (omega arith)),
      AreRising-adjacent rest (next ∷ entries) others
          (λ k d within. rw add-one (rw add-one at (adjacent (suc k) d (omega arith)))),
    )

pub KeepTheirOrder-tested : (entries : List Entry) (answer : Bool) → All IsEntry (map entry_view entries)
    → IsAllAdjacentAnswer (λ a b r. r ≡ is_before_below a.path.items b.path.items) entries answer
    → OnTrue answer (KeepTheirOrder (map entry_view entries))
KeepTheirOrder-tested entries true are_entries each = λ rest.
    AreRising-adjacent rest entries are_entries (λ k d within. sym (each k d within))
KeepTheirOrder-tested entries false are_entries each = tt
