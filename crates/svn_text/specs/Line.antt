-- Lines: bytes without a newline, which ends them.
use Rattle.std.specs.Prelude.{ℕ, ◌==◌, Bool, List, [], ◌∷◌, ◌++◌}

abbrev pub is_newline : ℕ → Bool
is_newline byte = byte == 10

abbrev pub line_text : List ℕ → List ℕ
line_text line = line ++ 10 ∷ []
