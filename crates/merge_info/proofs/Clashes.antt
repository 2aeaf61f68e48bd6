-- Runs in which some number is given both with and without `*`, and a scan that finds such a number.
use Rattle.merge_info.proofs.Common.{◌≡◌, ℕ, ◌≤◌, nat_le, Bool, true, false, ◌||◌, List, [], ◌∷◌, All, get_or, Some, refl, sym, ◌∙◌, arith, max, suc, if◌then◌else◌, IsAllAdjacentAnswer, list_any, IsNonDecreasingBy, IsPermutation, nat_tests, All-tail, list_any_none, IsNonDecreasingBy-from_all_adjacent, list_any-IsPermutation, is_le, is_some_and, nat_cmp, IsRun, Run, clashes, has_clash}
use Rattle.std.specs.Bool.{OnTrue}
use Rattle.merge_info.specs.Clash.{IsRisingByFirst}

-- ---- lists of runs

-- the order of the runs does not matter
pub has_clash-permutation : (xs ys : List Run) → IsPermutation xs ys → has_clash xs ≡ has_clash ys
unfolding has_clash
has_clash-permutation xs ys moved =
    list_any-IsPermutation (λ a. list_any (λ b. clashes a b) xs) xs ys moved
    ∙ (λ i. list_any (λ a. list_any-IsPermutation (λ b. clashes a b) xs ys moved i) ys)

or_assoc : (a b c : Bool) → ((a || b) || c) ≡ (a || (b || c))
or_assoc true b c = refl
or_assoc false b c = refl

-- a test that passes where one of two others does
list_any-or : {X : Type 0} (p q r : X → Bool) (xs : List X) → All (λ x. p x ≡ (q x || r x)) xs
    → list_any p xs ≡ (list_any q xs || list_any r xs)
list_any-or p q r [] each = refl
list_any-or p q r (x ∷ xs) each =
    let here = each 0 x (omega arith) in
    let rest = list_any-or p q r xs (All-tail (λ x. p x ≡ (q x || r x)) x xs each) in
    grind arith

-- a run is not of both sorts
clashes-itself : (a : Run) → clashes a a ≡ false
clashes-itself a = grind (arith, nat_tests)

abbrev pub clash : Run → Run → Bool
clash a b = clashes a b || clashes b a

-- one more run
pub has_clash-cons : (run : Run) (runs : List Run)
    → has_clash (run ∷ runs) ≡ (list_any (clash run) runs || has_clash runs)
unfolding has_clash
has_clash-cons run runs =
    rw (
      clashes-itself run,
      list_any-or (λ a. list_any (clashes a) (run ∷ runs)) (λ a. clashes a run) (λ a. list_any (clashes a) runs) runs
          (λ k d below. refl),
      list_any-or (clash run) (clashes run) (λ a. clashes a run) runs (λ k d below. refl),
    )
    (simp or_assoc)

-- ---- the scan

-- whether a run begins at or before the end of those of the other sort
abbrev is_reached : ℕ → ℕ → Run → Bool
is_reached inheritable_to non_inheritable_to run =
    nat_le run.lo (if run.inheritable then non_inheritable_to else inheritable_to)

-- whether one is, where the runs before them end at these numbers
abbrev pub scan : ℕ → ℕ → List Run → Bool
scan inheritable_to non_inheritable_to [] = false
scan inheritable_to non_inheritable_to (run ∷ runs) =
    is_reached inheritable_to non_inheritable_to run
    || scan (if run.inheritable then max inheritable_to run.hi else inheritable_to)
    (if run.inheritable then non_inheritable_to else max non_inheritable_to run.hi) runs

-- a later run is reached after a run, if it was before or they clash
is_reached-next : (inheritable_to non_inheritable_to : ℕ) (run later : Run) → IsRun later → run.lo ≤ later.lo
    → is_reached (if run.inheritable then max inheritable_to run.hi else inheritable_to)
    (if run.inheritable then non_inheritable_to else max non_inheritable_to run.hi) later
    ≡ (is_reached inheritable_to non_inheritable_to later || clash run later)
is_reached-next inheritable_to non_inheritable_to run later is_run order = grind (arith, nat_tests)

scan-has_clash : (runs : List Run) → All IsRun runs → IsRisingByFirst runs → (inheritable_to non_inheritable_to : ℕ)
    → scan inheritable_to non_inheritable_to runs
    ≡ (list_any (is_reached inheritable_to non_inheritable_to) runs || has_clash runs)
unfolding has_clash
scan-has_clash [] are_runs rising inheritable_to non_inheritable_to = refl
scan-has_clash (run ∷ runs) are_runs rising inheritable_to non_inheritable_to =
    let a = if run.inheritable then max inheritable_to run.hi else inheritable_to in
    let b = if run.inheritable then non_inheritable_to else max non_inheritable_to run.hi in
    let later = All-tail IsRun run runs are_runs in
    let next = list_any-or (is_reached a b) (is_reached inheritable_to non_inheritable_to) (clash run) runs
    (λ k d below.
    is_reached-next inheritable_to non_inheritable_to run (get_or runs k d) (later k d below) (rising.0 k d below)) in
    rw (scan-has_clash runs later rising.1 a b, next, has_clash-cons run runs) (simp or_assoc)

-- no run begins at or before 0
is_reached-none : (run : Run) → IsRun run → is_reached 0 0 run ≡ false
is_reached-none run is_run = grind (arith, nat_tests)

pub has_clash-scan : (runs : List Run) → All IsRun runs → IsRisingByFirst runs → has_clash runs ≡ scan 0 0 runs
has_clash-scan runs are_runs rising =
    let none = list_any_none (is_reached 0 0) runs
    (λ k d below. is_reached-none (get_or runs k d) (are_runs k d below)) in
    sym (scan-has_clash runs are_runs rising 0 0 ∙ rw none refl)

-- ---- runs in the order of their first numbers

-- what a sort by the first numbers gives
pub IsRisingByFirst-sorted : (runs : List Run) → IsNonDecreasingBy (λ run. run.lo) runs → IsRisingByFirst runs
IsRisingByFirst-sorted [] sorted = tt
IsRisingByFirst-sorted (run ∷ runs) sorted = (
  λ k d below. sorted 0 (suc k) d (omega arith) (omega arith),
  IsRisingByFirst-sorted runs (λ i j d before within. sorted (suc i) (suc j) d (omega arith) (omega arith)),
)

le-tested : (a b : ℕ) → is_some_and is_le (Some (nat_cmp a b)) ≡ true → a ≤ b
le-tested a b found = grind (arith, nat_tests)

-- what a test of the first numbers finds
pub IsRisingByFirst-tested : (runs : List Run) (rises : Bool)
    → IsAllAdjacentAnswer (λ a b r. r ≡ is_some_and is_le (Some (nat_cmp a.lo b.lo))) runs rises
    → OnTrue rises (IsRisingByFirst runs)
IsRisingByFirst-tested runs true each =
    IsRisingByFirst-sorted runs (IsNonDecreasingBy-from_all_adjacent (λ run. run.lo) runs
    (λ k d within. le-tested _ _ (sym (each k d within))))
IsRisingByFirst-tested runs false each = tt
