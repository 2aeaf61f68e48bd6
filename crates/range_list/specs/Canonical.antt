-- The canonical list of runs, number by number (Subversion book, "Mergeinfo and Previews").
use Rattle.std.specs.Prelude.{ℕ, suc, zero, ◌==◌, Bool, ◌&&◌, List, [], ◌∷◌, Option, Some, None, if◌then◌else◌}
use Rattle.std.specs.Bool.{beq}
use Rattle.svn_text.specs.Number.{greatest_revision}
use Rattle.range_list.specs.Rangelist.{inheritability_of}
use Rattle.range_list.specs.declared.run.Run.{Run}

abbrev pub run_of_one : ℕ → Bool → Run
run_of_one number inheritable = record { lo = number; hi = number; inheritable = inheritable }

-- the run goes on from the number below it
abbrev pub continues : ℕ → Bool → Run → Bool
continues number inheritable run = (suc number == run.lo) && beq inheritable run.inheritable

-- runs and a number below them, if it is in the set
abbrev pub put_before : ℕ → Option Bool → List Run → List Run
put_before number None runs = runs
put_before number (Some inheritable) [] = run_of_one number inheritable ∷ []
put_before number (Some inheritable) (run ∷ runs) =
    if continues number inheritable run then record { lo = number; hi = run.hi; inheritable = inheritable } ∷ runs
    else run_of_one number inheritable ∷ run ∷ runs

-- the maximal runs of so many numbers from a number on
unfoldable pub runs_from : (ℕ → Option Bool) → ℕ → ℕ → List Run
runs_from sort number zero = []
runs_from sort number (suc count) = put_before number (sort number) (runs_from sort (suc number) count)

-- the maximal runs of a set
unfoldable pub canonical_runs : List Run → List Run
canonical_runs runs = runs_from (inheritability_of runs) 1 greatest_revision
