-- The report on a dump: the answers to all queries, in their order.
use Rattle.std.specs.Prelude.{◌≡◌, ℕ, ◌+◌, ◌≤◌, List, [], ◌∷◌, None, bytes_eq, length}
use Rattle.std.specs.List.{flat_map}
use Rattle.svn_dump.specs.DumpText.{IsDumpText}
use Rattle.svn_dump.specs.Fault.{first_fault}
use Rattle.svn_dump.specs.Record.{HistoryOfBytes}
use Rattle.svn_dump.specs.Tree.{trees_of}
use Rattle.query_answer.specs.Answer.{TreesOfBytes, answer_of, answer_text}
use Rattle.query_answer.specs.Query.{query_of}
use Rattle.svn_report.specs.QueryLines.{query_lines}

-- how many queries one run answers
abbrev pub most_queries : ℕ
most_queries = 1000000

-- there are no more lines than one run answers
abbrev pub AreFew : List ℕ → Type 0
AreFew queries = length (query_lines queries) ≤ most_queries

-- the text of the answer to each of these lines, given the number of the first
unfoldable pub texts_from : ℕ → HistoryOfBytes → TreesOfBytes → List (List ℕ) → List (List ℕ)
texts_from number history trees [] = []
texts_from number history trees (line ∷ lines) =
    answer_text number (answer_of history trees (query_of line)) ∷ texts_from (number + 1) history trees lines

-- they are joined
abbrev pub answers_from : ℕ → HistoryOfBytes → TreesOfBytes → List (List ℕ) → List ℕ
answers_from number history trees lines = flat_map (λ text. text) (texts_from number history trees lines)

-- the answers to all queries on a history, joined
abbrev pub answers : HistoryOfBytes → List ℕ → List ℕ
answers history queries = answers_from 1 history (trees_of bytes_eq history) (query_lines queries)

-- the history is lawful, and these are the answers to the queries on it
pub record IsReportOn (history : HistoryOfBytes) (queries report : List ℕ) : Type 0 where
  pub lawful : first_fault bytes_eq history ≡ None
  pub answered : report ≡ answers history queries

-- there are few enough queries, the bytes are a dump of a lawful history, and these are its answers
pub record IsReport (dump queries report : List ℕ) : Type 0 where
  pub few : AreFew queries
  pub history : HistoryOfBytes
  pub read : IsDumpText dump history
  pub lawful : first_fault bytes_eq history ≡ None
  pub answered : report ≡ answers history queries
