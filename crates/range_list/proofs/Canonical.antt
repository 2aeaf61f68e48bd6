-- Canonical lists of runs.
use Rattle.std.proofs.Common.{◌≡◌, ℕ, suc, get_or, length, ◌+◌, ◌<◌, ◌≤◌, Bool, true, false, ◌&&◌, ◌||◌, List, [], ◌∷◌, ◌++◌, All, refl, sym, ap, subst, ◌∙◌, inl, inr, arith}
use Rattle.std.proofs.lemmas.Bool.{and_right, cases_Bool, cond-true, cond-false}
use Rattle.std.proofs.lemmas.Bool.Decides.{nat_tests}
use Rattle.std.proofs.lemmas.List.Elements.{All-nil, All-cons, All-head, All-tail}
use Rattle.range_list.specs.Rangelist.{covers, inheritable_runs, is_apart, is_in, is_inheritable, IsRun, IsApart, IsCanonical, IsInheritablePart}
use Rattle.std.specs.Bool.{OnTrue}
use Rattle.std.specs.List.{AllAdjacentBelow, IsAllAdjacentAnswer}
use Rattle.range_list.specs.declared.run.Run.{Run}
use Rattle.range_list.proofs.Same.{covers-below}

-- the first run, if any, is apart from this one
abbrev pub IsApartFromFirst : Run → List Run → Type 0
IsApartFromFirst run [] = Unit {0}
IsApartFromFirst run (next ∷ runs) = IsApart run next

pub IsCanonical-cons : (run : Run) (runs : List Run) → IsRun run → IsApartFromFirst run runs → IsCanonical runs → IsCanonical (run ∷ runs)
IsCanonical-cons run [] is_run apart canonical = is_run
IsCanonical-cons run (next ∷ runs) is_run apart canonical = (is_run, apart, canonical)

pub IsCanonical-head : (run : Run) (runs : List Run) → IsCanonical (run ∷ runs) → IsRun run
IsCanonical-head run [] canonical = canonical
IsCanonical-head run (next ∷ runs) canonical = canonical.0

pub IsCanonical-apart : (run : Run) (runs : List Run) → IsCanonical (run ∷ runs) → IsApartFromFirst run runs
IsCanonical-apart run [] canonical = tt
IsCanonical-apart run (next ∷ runs) canonical = canonical.1

pub IsCanonical-tail : (run : Run) (runs : List Run) → IsCanonical (run ∷ runs) → IsCanonical runs
IsCanonical-tail run [] canonical = tt
IsCanonical-tail run (next ∷ runs) canonical = canonical.2

pub AreRuns-from_canonical : (runs : List Run) → IsCanonical runs → All IsRun runs
AreRuns-from_canonical [] canonical = All-nil IsRun
AreRuns-from_canonical (run ∷ runs) canonical =
    All-cons IsRun run runs (IsCanonical-head run runs canonical) (AreRuns-from_canonical runs (IsCanonical-tail run runs canonical))

-- ---- numbers below the first run

-- the first run, if any, begins at the number or above it
abbrev pub BeginsFrom : ℕ → List Run → Type 0
BeginsFrom n [] = Unit {0}
BeginsFrom n (run ∷ runs) = n ≤ run.lo

pub BeginsFrom-tail : (run : Run) (runs : List Run) → IsCanonical (run ∷ runs) → BeginsFrom (run.hi + 1) runs
BeginsFrom-tail run [] canonical = tt
BeginsFrom-tail run (next ∷ runs) canonical = omega (arith, canonical.1.after)

-- runs that begin from a number on begin from any lower one on
pub BeginsFrom-lower : (m n : ℕ) (runs : List Run) → m ≤ n → BeginsFrom n runs → BeginsFrom m runs
BeginsFrom-lower m n [] lower begins = tt
BeginsFrom-lower m n (run ∷ runs) lower begins = omega arith

-- a number is in no run
pub record IsOut (runs : List Run) (n : ℕ) : Type 0 where
  pub out : is_in runs n ≡ false
  pub not_inheritable : is_inheritable runs n ≡ false

pub IsOut-cons : (run : Run) (runs : List Run) (n : ℕ) → covers run n ≡ false → IsOut runs n → IsOut (run ∷ runs) n
IsOut-cons run runs n uncovered out = record {
  out = ap (λ b. b || is_in runs n) uncovered ∙ out.out;
  not_inheritable = ap (λ b. b || is_inheritable runs n) (and_right run.inheritable (covers run n) uncovered) ∙ out.not_inheritable;
}

pub IsOut-below : (runs : List Run) (m n : ℕ) → IsCanonical runs → BeginsFrom m runs → n < m → IsOut runs n
IsOut-below [] m n canonical begins below = record { out = refl; not_inheritable = refl }
IsOut-below (run ∷ runs) m n canonical begins below =
    let is_run = IsCanonical-head run runs canonical in
    IsOut-cons run runs n (covers-below run n (omega arith))
    (IsOut-below runs (run.hi + 1) n (IsCanonical-tail run runs canonical) (BeginsFrom-tail run runs canonical) (omega (arith, is_run.ordered)))

-- ---- joining lists

-- lists that share one run
pub IsCanonical-append : (front : List Run) (run : Run) (back : List Run) → IsCanonical (front ++ run ∷ []) → IsCanonical (run ∷ back) → IsCanonical (front ++ run ∷ back)
IsCanonical-append [] run back left right = right
IsCanonical-append (first ∷ []) run back left right = (left.0, left.1, right)
IsCanonical-append (first ∷ second ∷ front) run back left right = (left.0, left.1, IsCanonical-append (second ∷ front) run back left.2 right)

-- a last run that ends elsewhere
pub IsCanonical-last : (front : List Run) (run last : Run) → IsCanonical (front ++ run ∷ []) → IsRun last → last.lo ≡ run.lo → last.inheritable ≡ run.inheritable → IsCanonical (front ++ last ∷ [])
IsCanonical-last [] run last canonical is_run same_lo same_sort = is_run
IsCanonical-last (first ∷ []) run last canonical is_run same_lo same_sort =
    let apart : IsApart first last = record {
      after = omega (arith, canonical.1.after);
      maximal = λ next same. canonical.1.maximal (next ∙ same_lo) (same ∙ same_sort);
    } in
    (canonical.0, apart, is_run)
IsCanonical-last (first ∷ second ∷ front) run last canonical is_run same_lo same_sort =
    (canonical.0, canonical.1, IsCanonical-last (second ∷ front) run last canonical.2 is_run same_lo same_sort)

-- ---- the inheritable runs

-- the list of a first run that is inheritable, and of one that is not
inheritable_runs-kept : (run : Run) (runs : List Run) → run.inheritable ≡ true → inheritable_runs (run ∷ runs) ≡ run ∷ inheritable_runs runs
inheritable_runs-kept run runs inherits = cond-true run.inheritable _ _ inherits

inheritable_runs-skip : (run : Run) (runs : List Run) → run.inheritable ≡ false → inheritable_runs (run ∷ runs) ≡ inheritable_runs runs
inheritable_runs-skip run runs non_inheritable = cond-false run.inheritable _ _ non_inheritable

pub BeginsFrom-filter : (m : ℕ) (runs : List Run) → IsCanonical runs → BeginsFrom m runs → BeginsFrom m (inheritable_runs runs)
BeginsFrom-filter m [] canonical begins = tt
BeginsFrom-filter m (run ∷ runs) canonical begins =
    let is_run = IsCanonical-head run runs canonical in
    elim (cases_Bool run.inheritable) [
      | inl inherits ↦ subst (BeginsFrom m) (sym (inheritable_runs-kept run runs inherits)) begins
      | inr non_inheritable ↦ subst (BeginsFrom m) (sym (inheritable_runs-skip run runs non_inheritable)) (BeginsFrom-filter m runs (IsCanonical-tail run runs canonical) (BeginsFrom-lower m (run.hi + 1) runs (omega (arith, is_run.ordered)) (BeginsFrom-tail run runs canonical)))
    ]

-- a run is apart from runs that begin above the number after its end
IsApartFromFirst-far : (run : Run) (m : ℕ) (runs : List Run) → run.hi + 1 < m → BeginsFrom m runs → IsApartFromFirst run runs
IsApartFromFirst-far run m [] far begins = tt
IsApartFromFirst-far run m (next ∷ runs) far begins = record { after = omega arith; maximal = λ touches same_sort. omega arith }

-- between two inheritable runs that come one after the other, another one may stand, and then they do not touch
IsApartFromFirst-filter : (run : Run) (runs : List Run) → IsCanonical (run ∷ runs) → IsApartFromFirst run (inheritable_runs runs)
IsApartFromFirst-filter run [] canonical = tt
IsApartFromFirst-filter run (next ∷ runs) canonical =
    let is_next = IsCanonical-head next runs canonical.2 in
    elim (cases_Bool next.inheritable) [
      | inl inherits ↦ subst (IsApartFromFirst run) (sym (inheritable_runs-kept next runs inherits)) canonical.1
      | inr non_inheritable ↦ subst (IsApartFromFirst run) (sym (inheritable_runs-skip next runs non_inheritable)) (IsApartFromFirst-far run (next.hi + 1) (inheritable_runs runs) (omega (arith, is_next.ordered, canonical.1.after))
          (BeginsFrom-filter (next.hi + 1) runs (IsCanonical-tail next runs canonical.2) (BeginsFrom-tail next runs canonical.2)))
    ]

pub IsCanonical-filter : (runs : List Run) → IsCanonical runs → IsCanonical (inheritable_runs runs)
IsCanonical-filter [] canonical = tt
IsCanonical-filter (run ∷ runs) canonical =
    let rest = IsCanonical-filter runs (IsCanonical-tail run runs canonical) in
    elim (cases_Bool run.inheritable) [
      | inl inherits ↦ subst IsCanonical (sym (inheritable_runs-kept run runs inherits)) (IsCanonical-cons run (inheritable_runs runs) (IsCanonical-head run runs canonical) (IsApartFromFirst-filter run runs canonical) rest)
      | inr non_inheritable ↦ subst IsCanonical (sym (inheritable_runs-skip run runs non_inheritable)) rest
    ]

pub IsInheritablePart-filter : (runs : List Run) → IsInheritablePart runs (inheritable_runs runs)
IsInheritablePart-filter [] n = (refl, refl)
IsInheritablePart-filter (run ∷ runs) n =
    let rest = IsInheritablePart-filter runs n in
    let with_first : Bool → Bool = λ inherits. (inherits && covers run n) || is_inheritable runs n in
    elim (cases_Bool run.inheritable) [
      | inl inherits ↦
          let kept = inheritable_runs-kept run runs inherits in (
            ap (λ part. is_in part n) kept ∙ ap (λ b. covers run n || b) rest.0 ∙ ap with_first (sym inherits),
            ap (λ part. is_inheritable part n) kept ∙ ap (λ b. (run.inheritable && covers run n) || b) rest.1,
          )
      | inr non_inheritable ↦
          let skipped = inheritable_runs-skip run runs non_inheritable in (
            ap (λ part. is_in part n) skipped ∙ rest.0 ∙ ap with_first (sym non_inheritable),
            ap (λ part. is_inheritable part n) skipped ∙ rest.1 ∙ ap with_first (sym non_inheritable),
          )
    ]

-- ---- lists in which each run was tested with the next

IsApart-tested : (a b : Run) → is_apart a b ≡ true → IsApart a b
IsApart-tested a b tested = grind (arith, nat_tests)

-- each run and the next
IsCanonical-adjacent : (runs : List Run) → All IsRun runs → AllAdjacentBelow (λ a b. is_apart a b ≡ true) runs (length runs) → IsCanonical runs
IsCanonical-adjacent [] are_runs adjacent = tt
IsCanonical-adjacent (run ∷ []) are_runs adjacent = All-head IsRun run [] are_runs
IsCanonical-adjacent (run ∷ next ∷ runs) are_runs adjacent = (
  All-head IsRun run (next ∷ runs) are_runs,
  IsApart-tested run next (adjacent 0 run (omega arith)),
  IsCanonical-adjacent (next ∷ runs) (All-tail IsRun run (next ∷ runs) are_runs) (λ k d within.
      let second : suc k + 1 ≡ suc (k + 1) = omega arith in
      subst (λ j. is_apart (get_or (next ∷ runs) k d) (get_or (run ∷ next ∷ runs) j d) ≡ true) second (adjacent (suc k) d (omega arith))),
)

pub IsCanonical-tested : (runs : List Run) (answer : Bool) → All IsRun runs → IsAllAdjacentAnswer (λ a b r. r ≡ is_apart a b) runs answer → OnTrue answer (IsCanonical runs)
IsCanonical-tested runs true are_runs each = IsCanonical-adjacent runs are_runs (λ k d within. sym (each k d within))
IsCanonical-tested runs false are_runs each = tt
