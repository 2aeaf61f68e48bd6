-- The lines that the program itself prints on standard error.
use Rattle.std.specs.Prelude.{ℕ, List, [], ◌∷◌, ◌++◌, codes}

abbrev pub usage_line : List ℕ
usage_line = codes "svnhist: usage: svnhist DUMP QUERIES BLOCK WORKERS" ++ 10 ∷ []

abbrev pub unsent_line : List ℕ
unsent_line = codes "svnhist: cannot write the report" ++ 10 ∷ []
