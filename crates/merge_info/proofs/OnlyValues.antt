-- Two values that give each path the same revisions are equal.
use Rattle.merge_info.proofs.Common.{◌≡◌, List, [], ◌∷◌, All, inl, inr, refl, ap, ap₂, subst, ◌∙◌, arith, slice_cmp, nat_cmp, ordering_reverse, Less, Equal, Greater, cases_Bool, nat_list_cmp_total, All-nil, All-tail, bytes_eq-Decides, HasSameNumbers-refl, HasSameNumbers-sym, Line, AreRising, HasSameRevisions, IsEntry, IsMergeInfo, IsOnlyMergeInfo, runs_at}
use Rattle.std.specs.Prelude.{bytes_eq}
use Rattle.std.specs.declared.cmp.Ordering.{Ordering}
use Rattle.std.proofs.lemmas.Map.Lookups.{exact_bytes}
use Rattle.range_list.proofs.Only.{only_canonical}
use Rattle.merge_info.proofs.Rising.{AreRising-first, AreRising-tail, IsPathBefore, runs_at-before, runs_at-first}

HasSameRevisions-sym : (a b : List Line) → HasSameRevisions a b → HasSameRevisions b a
HasSameRevisions-sym a b same path = HasSameNumbers-sym _ _ (same path)

-- the other value cannot lack the first path
first_lacks : (line : Line) (lines others : List Line) → IsMergeInfo (line ∷ lines)
    → All (IsPathBefore line.path) others → HasSameRevisions (line ∷ lines) others → ⊥
first_lacks line lines others value before same =
    let entry : IsEntry line = value.entries 0 line (omega arith) in
    let none = rw (runs_at-first line lines value.rising, runs_at-before others line.path before) at (same line.path) in
    entry.some (only_canonical line.runs [] entry.canonical tt none)

module _ (a b : Line) (more_a more_b : List Line) (value_a : IsMergeInfo (a ∷ more_a))
    (value_b : IsMergeInfo (b ∷ more_b)) (same : HasSameRevisions (a ∷ more_a) (b ∷ more_b)) where
  -- neither begins with a path before the first of the other
  same_path : a.path ≡ b.path
  same_path = by (slice_cmp nat_cmp a.path b.path) refl
    where
      by : (order : Ordering) → slice_cmp nat_cmp a.path b.path ≡ order → a.path ≡ b.path
      by Less is =
          absurd (first_lacks a more_a (b ∷ more_b) value_a (AreRising-first a (b ∷ more_b) (is, value_b.rising)) same)
      by Equal is = exact_bytes a.path b.path is
      by Greater is =
          let after = nat_list_cmp_total.antisymm b.path a.path ∙ ap ordering_reverse is in
          absurd (first_lacks b more_b (a ∷ more_a) value_b (AreRising-first b (a ∷ more_a) (after, value_a.rising))
          (HasSameRevisions-sym (a ∷ more_a) (b ∷ more_b) same))

  same_first : a ≡ b
  same_first =
      let entry_a : IsEntry a = value_a.entries 0 a (omega arith) in
      let entry_b : IsEntry b = value_b.entries 0 b (omega arith) in
      let runs_b = ap (runs_at (b ∷ more_b)) same_path ∙ runs_at-first b more_b value_b.rising in
      let numbers = rw (runs_at-first a more_a value_a.rising, runs_b) at (same a.path) in
      let runs = only_canonical a.runs b.runs entry_a.canonical entry_b.canonical numbers in
      λ i. record { path = same_path i; runs = runs i }

-- after a line of both the later lines give no runs to its path, and to another path all that it has
same_rest : (line : Line) (a b : List Line) → AreRising (line ∷ a) → AreRising (line ∷ b)
    → HasSameRevisions (line ∷ a) (line ∷ b) → HasSameRevisions a b
same_rest line a b rising_a rising_b same path = elim (cases_Bool (bytes_eq line.path path)) [
  | inl first ↦
      rw (
        ← (bytes_eq-Decides line.path path).0 first,
        runs_at-before a line.path (AreRising-first line a rising_a),
        runs_at-before b line.path (AreRising-first line b rising_b),
      ) (HasSameNumbers-refl [])
  | inr other ↦ rw other at (same path)
]

IsMergeInfo-tail : (line : Line) (lines : List Line) → IsMergeInfo (line ∷ lines) → IsMergeInfo lines
IsMergeInfo-tail line lines value = record {
  entries = All-tail IsEntry line lines value.entries;
  rising = AreRising-tail line lines value.rising;
}

pub same_values : (a b : List Line) → IsMergeInfo a → IsMergeInfo b → HasSameRevisions a b → a ≡ b
same_values [] [] value_a value_b same = refl
same_values [] (b ∷ more_b) value_a value_b same =
    absurd (first_lacks b more_b [] value_b (All-nil (IsPathBefore b.path)) (HasSameRevisions-sym [] (b ∷ more_b) same))
same_values (a ∷ more_a) [] value_a value_b same =
    absurd (first_lacks a more_a [] value_a (All-nil (IsPathBefore a.path)) same)
same_values (a ∷ more_a) (b ∷ more_b) value_a value_b same =
    let first = same_first a b more_a more_b value_a value_b same in
    let rest = same_rest b more_a more_b (subst (λ line. AreRising (line ∷ more_a)) first value_a.rising) value_b.rising
    (subst (λ line. HasSameRevisions (line ∷ more_a) (b ∷ more_b)) first same) in
    ap₂ (λ line lines. line ∷ lines) first
    (same_values more_a more_b (IsMergeInfo-tail a more_a value_a) (IsMergeInfo-tail b more_b value_b) rest)

-- no other value gives each path the same revisions
pub only_value : (value : List Line) → IsMergeInfo value → IsOnlyMergeInfo value
only_value value is_value other is_other same = same_values other value is_other is_value same
