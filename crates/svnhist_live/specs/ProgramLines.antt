-- The line that the program itself prints on standard error.
use Rattle.std.specs.Prelude.{ℕ, List, [], ◌∷◌, ◌++◌, codes}

abbrev pub usage_line : List ℕ
usage_line = codes "svnhist: usage: svnhist-live DUMP WORKERS" ++ 10 ∷ []
