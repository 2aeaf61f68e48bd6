-- The answers to lines of a talk by their places.
use Rattle.std.specs.Prelude.{◌≡◌, ℕ, ◌+◌, ◌<◌, List, [], ◌∷◌, length, slice_index_or}
use denote.Ref.{Bor}
use Rattle.svn_dump.specs.Dump.{DumpValue, history_in_bytes}
use Rattle.svn_dump.specs.Record.{HistoryOfBytes}
use Rattle.query_answer.specs.Answer.{TreesOfBytes, answer_text}
use Rattle.query_answer.specs.Repo.{trees_in_bytes}
use Rattle.svn_report.specs.Answering.{lent_lines}
use Rattle.live_history.specs.Talk.{line_answer}

-- the answers to lines, numbered from here on
unfoldable pub texts_from : ℕ → HistoryOfBytes → TreesOfBytes → List (List ℕ) → List (List ℕ)
texts_from number history trees [] = []
texts_from number history trees (line ∷ lines) =
    answer_text number (line_answer history trees line) ∷ texts_from (number + 1) history trees lines

abbrev pub HasLine : List (Bor (List ℕ)) → ℕ → Type 0
HasLine lines place = place < length lines

-- the text is the answer to the line at a place among those that follow the first ones
abbrev pub IsTextAt : DumpValue → ℕ → List (Bor (List ℕ)) → ℕ → List ℕ → Type 0
IsTextAt dump first lines place text =
    text
    ≡ answer_text (first + place + 1)
    (line_answer (history_in_bytes dump) (trees_in_bytes dump) (slice_index_or (lent_lines lines) place []))

-- the texts of the answers to the lines that follow the first ones
abbrev pub texts_to_batch : DumpValue → ℕ → List (Bor (List ℕ)) → List (List ℕ)
texts_to_batch dump first lines =
    texts_from (first + 1) (history_in_bytes dump) (trees_in_bytes dump) (lent_lines lines)
