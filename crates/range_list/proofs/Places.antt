-- The run of a number in a canonical list.
use Rattle.std.proofs.Common.{◌≡◌, ℕ, zero, suc, ◌+◌, ◌<◌, ◌≤◌, true, false, ◌||◌, cond, leb, ltb, List, [], ◌∷◌, Some, None, length, get_or, refl, sym, ap, subst, ◌∙◌, inl, inr, arith}
use Rattle.std.proofs.lemmas.Bool.{cases_lt, ltb-true, ltb-false, lt-leb, le-leb}
use Rattle.std.proofs.lemmas.List.Sorted.{IsNonDecreasingBy-from_all_adjacent, IsPartitionedBy-ltb}
use Rattle.std.specs.List.{AllAdjacentBelow}
use Rattle.std.specs.List.Sorted.{IsPartitionPoint, IsPartitionedBy}
use Rattle.range_list.specs.Rangelist.{covers, is_in, is_inheritable, inheritability_of, IsCanonical}
use Rattle.range_list.specs.declared.run.Run.{Run}
use Rattle.range_list.proofs.Canonical.{BeginsFrom-tail, IsCanonical-head, IsCanonical-tail, IsOut, IsOut-below}
use Rattle.range_list.proofs.Same.{covers-above, covers-below, covers-within, and_or, and_or_false}

-- the ends of the runs rise
ends_rise : (runs : List Run) → IsCanonical runs → AllAdjacentBelow (λ a b. a.hi ≤ b.hi) runs (length runs)
ends_rise [] canonical k d within = absurd (omega arith)
ends_rise (run ∷ []) canonical k d within = absurd (omega arith)
ends_rise (run ∷ next ∷ runs) canonical zero d within = omega (arith, canonical.1.after, (IsCanonical-head next runs canonical.2).ordered)
ends_rise (run ∷ next ∷ runs) canonical (suc k) d within =
    subst (λ j. (get_or (next ∷ runs) k d).hi ≤ (get_or (run ∷ next ∷ runs) j d).hi) {x = suc (k + 1)} (omega arith) (ends_rise (next ∷ runs) canonical.2 k d (omega arith))

pub IsPartitionedBy-hi : (runs : List Run) (n : ℕ) → IsCanonical runs → IsPartitionedBy (λ run. ltb run.hi n) runs
IsPartitionedBy-hi runs n canonical = IsPartitionedBy-ltb (λ run. run.hi) runs n (IsNonDecreasingBy-from_all_adjacent (λ run. run.hi) runs (ends_rise runs canonical))

-- a list in which the number is not
pub inheritability_of-out : (runs : List Run) (n : ℕ) → IsOut runs n → inheritability_of runs n ≡ None
inheritability_of-out runs n out = ap (λ b. cond b (Some (is_inheritable runs n)) None) out.out

-- a first run that has not the number
pub inheritability_of-skip : (run : Run) (runs : List Run) (n : ℕ) → covers run n ≡ false → inheritability_of (run ∷ runs) n ≡ inheritability_of runs n
inheritability_of-skip run runs n uncovered =
    ap (λ b. cond (b || is_in runs n) (Some (is_inheritable (run ∷ runs) n)) None) uncovered
    ∙ ap (λ b. cond (is_in runs n) (Some b) None) (and_or_false run.inheritable (covers run n) (is_inheritable runs n) uncovered)

-- a number that no run but the first may have
pub inheritability_of-first : (run : Run) (runs : List Run) (n : ℕ) → IsOut runs n → n ≤ run.hi → inheritability_of (run ∷ runs) n ≡ cond (leb run.lo n) (Some run.inheritable) None
inheritability_of-first run runs n out to = elim (cases_lt n run.lo) [
  | inl below ↦ inheritability_of-skip run runs n (covers-below run n below) ∙ inheritability_of-out runs n out ∙ ap (λ b. cond b (Some run.inheritable) None) (sym (lt-leb run.lo n below))
  | inr from ↦
      let covered = covers-within run n from to in
      ap (λ b. cond (b || is_in runs n) (Some (is_inheritable (run ∷ runs) n)) None) covered
      ∙ ap Some (and_or run.inheritable (covers run n) (is_inheritable runs n) covered out.not_inheritable)
      ∙ ap (λ b. cond b (Some run.inheritable) None) (sym (le-leb run.lo n from))
]

-- the runs before the index end below the number, and the run at the index does not
inheritability_of-at : (runs : List Run) (i n : ℕ) (run : Run) → IsCanonical runs → i < length runs → run ≡ get_or runs i run →
    ((k : ℕ) (d : Run) → k < i → (get_or runs k d).hi < n) → n ≤ run.hi →
    inheritability_of runs n ≡ cond (leb run.lo n) (Some run.inheritable) None
inheritability_of-at [] i n run canonical within is before to = absurd (omega arith)
inheritability_of-at (first ∷ runs) zero n run canonical within is before to =
    let rest = IsOut-below runs (first.hi + 1) n (IsCanonical-tail first runs canonical) (BeginsFrom-tail first runs canonical) (omega (arith, ap (λ (each : Run). each.hi) is)) in
    inheritability_of-first first runs n rest (omega (arith, ap (λ (each : Run). each.hi) is))
    ∙ ap (λ (each : Run). cond (leb each.lo n) (Some each.inheritable) None) (sym is)
inheritability_of-at (first ∷ runs) (suc i) n run canonical within is before to =
    inheritability_of-skip first runs n (covers-above first n (before 0 first (omega arith)))
    ∙ inheritability_of-at runs i n run (IsCanonical-tail first runs canonical) (omega arith) is (λ k d below. before (suc k) d (omega arith)) to

-- all runs end below the number
inheritability_of-past : (runs : List Run) (n : ℕ) → ((k : ℕ) (d : Run) → k < length runs → (get_or runs k d).hi < n) → inheritability_of runs n ≡ None
inheritability_of-past [] n before = refl
inheritability_of-past (run ∷ runs) n before =
    inheritability_of-skip run runs n (covers-above run n (before 0 run (omega arith)))
    ∙ inheritability_of-past runs n (λ k d below. before (suc k) d (omega arith))

-- what a search for the first run that does not end below the number finds
module _ (runs : List Run) (n i : ℕ) (canonical : IsCanonical runs) (point : IsPartitionPoint (λ run. ltb run.hi n ≡ true) (λ run. ltb run.hi n ≡ false) runs i) where
  pub inheritability_of-found : (run : Run) → i < length runs → run ≡ get_or runs i run → inheritability_of runs n ≡ cond (leb run.lo n) (Some run.inheritable) None
  inheritability_of-found run within is =
      let reaches : n ≤ run.hi = subst (λ (each : Run). n ≤ each.hi) (sym is) (ltb-false (get_or runs i run).hi n (point.1 i run (omega arith) within)) in
      inheritability_of-at runs i n run canonical within is (λ k d before. ltb-true (get_or runs k d).hi n (point.0 k d (omega arith) before)) reaches

  pub inheritability_of-not_found : length runs ≤ i → inheritability_of runs n ≡ None
  inheritability_of-not_found past = inheritability_of-past runs n (λ k d within. ltb-true (get_or runs k d).hi n (point.0 k d (omega arith) (omega arith)))
