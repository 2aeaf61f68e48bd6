-- The answers to query lines by their places.
use Rattle.std.specs.Prelude.{◌≡◌, ℕ, ◌+◌, ◌<◌, List, [], ◌++◌, length, map, slice_index_or}
use Rattle.std.specs.List.{flat_map}
use denote.Ref.{Bor}
use Rattle.svn_dump.specs.Dump.{DumpValue, history_in_bytes}
use Rattle.query_answer.specs.Answer.{answer_text}
use Rattle.query_answer.specs.Query.{query_of}
use Rattle.query_answer.specs.Repo.{answer_in, trees_in_bytes}
use Rattle.svn_report.specs.Report.{answers_from, texts_from}
use Rattle.svn_report.specs.declared.answering.PartialReport.{PartialReport}

-- the lines that are lent
abbrev pub lent_lines : List (Bor (List ℕ)) → List (List ℕ)
lent_lines lines = map (λ line. line.now) lines

abbrev pub HasLine : List (Bor (List ℕ)) → ℕ → Type 0
HasLine lines place = place < length lines

-- the text is the answer to the line at a place among those that follow the first ones
abbrev pub IsTextAt : DumpValue → ℕ → List (Bor (List ℕ)) → ℕ → List ℕ → Type 0
IsTextAt dump first lines place text =
    text ≡ answer_text (first + place + 1) (answer_in dump (query_of (slice_index_or (lent_lines lines) place [])))

-- the texts of the answers to the lines that follow the first ones
abbrev pub texts_to_batch : DumpValue → ℕ → List (Bor (List ℕ)) → List (List ℕ)
texts_to_batch dump first lines =
    texts_from (first + 1) (history_in_bytes dump) (trees_in_bytes dump) (lent_lines lines)

-- they are joined
abbrev pub answers_to_batch : DumpValue → ℕ → List (Bor (List ℕ)) → List ℕ
answers_to_batch dump first lines =
    answers_from (first + 1) (history_in_bytes dump) (trees_in_bytes dump) (lent_lines lines)

-- what is joined, and the answers that follow
abbrev pub partial_text : PartialReport → List ℕ
partial_text partial = partial.report.items ++ flat_map (λ text. text.items) partial.texts.items
