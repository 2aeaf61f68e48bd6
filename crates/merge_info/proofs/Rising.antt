-- Lines whose paths rise.
use Rattle.merge_info.proofs.Common.{◌≡◌, ℕ, zero, suc, ◌<◌, Bool, false, List, [], ◌∷◌, All, length, get_or, filter, bytes_eq, sym, ap, ◌∙◌, append-nil, inl, inr, arith, cases_Bool, nat_list_cmp_total, nat_list_eq_equiv, All-cons, All-filter, All-nil, All-weaker, slice_cmp, is_eq, nat_cmp, Less, Line, AreRising, IsBefore, runs_at}
use Rattle.std.proofs.lemmas.Map.Text.{is_eq-slice_cmp}
use Rattle.merge_info.proofs.RunsAt.{runs_at-none}

abbrev pub IsPathBefore : List ℕ → Line → Type 0
IsPathBefore path line = slice_cmp nat_cmp path line.path ≡ Less

-- a path before another is not that one
pub bytes_eq-before : (a b : List ℕ) → slice_cmp nat_cmp a b ≡ Less → bytes_eq a b ≡ false
bytes_eq-before a b before = sym (is_eq-slice_cmp a b) ∙ ap is_eq before

-- nor is a path after another
bytes_eq-after : (a b : List ℕ) → slice_cmp nat_cmp a b ≡ Less → bytes_eq b a ≡ false
bytes_eq-after a b before = nat_list_eq_equiv.symm b a ∙ bytes_eq-before a b before

-- the lines after the first
pub AreRising-tail : (line : Line) (lines : List Line) → AreRising (line ∷ lines) → AreRising lines
AreRising-tail line [] rising = tt
AreRising-tail line (next ∷ lines) rising = rising.1

-- the first path is before all the others
pub AreRising-first : (line : Line) (lines : List Line) → AreRising (line ∷ lines) → All (IsPathBefore line.path) lines
AreRising-first line [] rising = All-nil (IsPathBefore line.path)
AreRising-first line (next ∷ lines) rising =
    All-cons (IsPathBefore line.path) next lines rising.0
    (All-weaker (IsPathBefore next.path) (IsPathBefore line.path)
    (λ each. nat_list_cmp_total.trans line.path next.path each.path rising.0) lines
    (AreRising-first next lines rising.1))

-- a path before all the others is the first
pub AreRising-cons : (line : Line) (lines : List Line) → All (IsPathBefore line.path) lines → AreRising lines
    → AreRising (line ∷ lines)
AreRising-cons line [] before rising = tt
AreRising-cons line (next ∷ lines) before rising = (before 0 next (omega arith), rising)

-- each path is before the later ones
pub AreRising-at : (lines : List Line) → AreRising lines → (i k : ℕ) (d : Line) → i < k → k < length lines
    → IsBefore (get_or lines i d) (get_or lines k d)
AreRising-at [] rising i k d later below = absurd (omega arith)
AreRising-at (line ∷ lines) rising i zero d later below = absurd (omega arith)
AreRising-at (line ∷ lines) rising zero (suc k) d later below = AreRising-first line lines rising k d (omega arith)
AreRising-at (line ∷ lines) rising (suc i) (suc k) d later below =
    AreRising-at lines (AreRising-tail line lines rising) i k d (omega arith) (omega arith)

-- some of the lines
pub AreRising-filter : (keep : Line → Bool) (lines : List Line) → AreRising lines → AreRising (filter keep lines)
AreRising-filter keep [] rising = tt
AreRising-filter keep (line ∷ lines) rising =
    let rest = AreRising-filter keep lines (AreRising-tail line lines rising) in
    let before = All-filter keep (IsPathBefore line.path) lines (AreRising-first line lines rising) in
    elim (cases_Bool (keep line)) [
      | inl kept ↦ rw kept (AreRising-cons line (filter keep lines) before rest)
      | inr left ↦ rw left rest
    ]

-- ---- the runs of a path

-- a path before all others has no runs
pub runs_at-before : (lines : List Line) (path : List ℕ) → All (IsPathBefore path) lines → runs_at lines path ≡ []
runs_at-before lines path before = runs_at-none lines path (λ k d below. bytes_eq-after path _ (before k d below))

-- the runs of the first path are those of its line
pub runs_at-first : (line : Line) (lines : List Line) → AreRising (line ∷ lines)
    → runs_at (line ∷ lines) line.path ≡ line.runs
runs_at-first line lines rising =
    rw (nat_list_eq_equiv.refl line.path, runs_at-before lines line.path (AreRising-first line lines rising))
    (append-nil line.runs)

-- and so of each path
pub runs_at-line : (lines : List Line) (i : ℕ) (d : Line) → AreRising lines → i < length lines
    → runs_at lines (get_or lines i d).path ≡ (get_or lines i d).runs
runs_at-line [] i d rising below = absurd (omega arith)
runs_at-line (line ∷ lines) zero d rising below = runs_at-first line lines rising
runs_at-line (line ∷ lines) (suc i) d rising below =
    rw (bytes_eq-before line.path _ (AreRising-first line lines rising i d (omega arith)))
    (runs_at-line lines i d (AreRising-tail line lines rising) (omega arith))
