-- The turns of a talk as an input has them: a query on a line of its own, or a further piece of the dump after a line that
-- says how many bytes it has.
use Rattle.std.specs.Prelude.{◌≡◌, ℕ, List, ◌++◌, Some, codes, length}
use Rattle.std.specs.List.{flat_map}
use Rattle.svn_text.specs.Cut.{Lacks}
use Rattle.svn_text.specs.Line.{line_text}
use Rattle.svn_text.specs.Number.{greatest_length, number_up_to}

pub data Turn : Type 0 where
  query : (line : List ℕ) → Turn
  piece : (digits : List ℕ) → (bytes : List ℕ) → Turn

-- the line before a piece
abbrev pub piece_line : List ℕ → List ℕ
piece_line digits = codes "piece " ++ digits

-- the line says that a piece of so many bytes follows
pub record IsPieceLine (line : List ℕ) (size : ℕ) : Type 0 where
  pub digits : List ℕ
  pub whole : line ≡ piece_line digits
  pub number : number_up_to greatest_length digits ≡ Some size

-- a line that is not the line before a piece; or a piece of as many bytes as its line says
abbrev pub IsTurn : Turn → Type 0
IsTurn (query line) = Lacks 10 line × ((size : ℕ) → IsPieceLine line size → ⊥)
IsTurn (piece digits bytes) = number_up_to greatest_length digits ≡ Some (length bytes)

-- how a turn is written
abbrev pub turn_bytes : Turn → List ℕ
turn_bytes (query line) = line_text line
turn_bytes (piece digits bytes) = line_text (piece_line digits) ++ bytes

abbrev pub turns_bytes : List Turn → List ℕ
turns_bytes turns = flat_map turn_bytes turns
