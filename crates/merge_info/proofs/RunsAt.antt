-- The runs that lines give a path.
use Rattle.merge_info.proofs.Common.{◌≡◌, ℕ, false, cond, List, [], ◌∷◌, ◌++◌, All, bytes_eq, refl, arith, suc, common_steps, Run, Line, runs_at}

-- the runs that one line gives a path
abbrev pub runs_of : Line → List ℕ → List Run
runs_of line path = cond (bytes_eq line.path path) line.runs []

-- a last line's runs come last
pub runs_at-push : (lines : List Line) (line : Line) (path : List ℕ)
    → runs_at (lines ++ line ∷ []) path ≡ runs_at lines path ++ runs_of line path
runs_at-push lines line path = grind (arith, common_steps)

-- lines of other paths give it none
pub runs_at-none : (lines : List Line) (path : List ℕ) → All (λ line. bytes_eq line.path path ≡ false) lines
    → runs_at lines path ≡ []
runs_at-none [] path apart = refl
runs_at-none (line ∷ lines) path apart =
    rw (apart 0 line (omega arith)) (runs_at-none lines path (λ k d below. apart (suc k) d (omega arith)))
