-- The lines of a list of queries; a newline at the end begins no further line.
use Rattle.std.specs.Prelude.{ℕ, List, [], ◌∷◌}
use Rattle.std.specs.List.{slice_split}
use Rattle.svn_text.specs.Line.{is_newline}

-- the parts without the last one, where that is empty
abbrev pub without_last_empty : List (List ℕ) → List (List ℕ)
without_last_empty [] = []
without_last_empty ([] ∷ []) = []
without_last_empty ((byte ∷ bytes) ∷ []) = (byte ∷ bytes) ∷ []
without_last_empty (line ∷ next ∷ lines) = line ∷ without_last_empty (next ∷ lines)

abbrev pub query_lines : List ℕ → List (List ℕ)
query_lines bytes = without_last_empty (slice_split is_newline bytes)
