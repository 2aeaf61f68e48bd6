-- How a note and an answer show what a worker knows of a cell.
use Rattle.std.specs.Prelude.{ℕ, Bool, true, false, List, Option, Some, None, IsSome, option_map, ⊤}
use Rattle.value_memo.specs.declared.reading.Reading.{Reading}
use Rattle.value_memo.specs.declared.known_cell.Answer.{Answer}
use Rattle.value_memo.specs.declared.known_cell.Answer.TheVariants.{Unknown, Shared, Own}

-- the text of an answer, given what the note knows of the cell
abbrev pub answered_text : Option Reading → Answer → Option (List ℕ)
answered_text known Unknown = None
answered_text known Shared = option_map (λ reading. reading.text.now) known
answered_text known (Own reading) = Some reading.value.text.now

abbrev pub is_own : Answer → Bool
is_own Unknown = false
is_own Shared = false
is_own (Own reading) = true

-- an answer that is the cell's reading is one that the note knows
abbrev pub IsKnown : Option Reading → Answer → Type 0
IsKnown known Unknown = ⊤
IsKnown known Shared = IsSome known
IsKnown known (Own reading) = ⊤
