-- What is said in a talk about a dump that grows: for each turn a reply, which ends with an empty line.
use Rattle.std.specs.Prelude.{◌≡◌, ℕ, ◌+◌, ◌-◌, List, [], ◌∷◌, ◌++◌, None, Some, bytes_eq, codes, decimal, fold, length}
use Rattle.svn_text.specs.Line.{line_text}
use Rattle.svn_dump.specs.DumpText.{IsDumpText}
use Rattle.svn_dump.specs.Fault.{first_fault}
use Rattle.svn_dump.specs.Record.{HistoryOfBytes}
use Rattle.svn_dump.specs.Tree.{trees_of}
use Rattle.branch_answer.specs.Question.{question_of}
use Rattle.branch_answer.specs.QuestionAnswer.{question_answer}
use Rattle.query_answer.specs.Answer.{Answer, TreesOfBytes, answer_of, answer_text}
use Rattle.query_answer.specs.Query.{query_of}
use Rattle.live_history.specs.Turn.{Turn, piece, query}

-- the answer to a question about branches; or to a query, as a report has it
abbrev pub line_answer : HistoryOfBytes → TreesOfBytes → List ℕ → Answer
line_answer history trees line =
    elim (question_of line) [
      | None ↦ answer_of history trees (query_of line)
      | Some question ↦ question_answer history trees question
    ]

-- the bytes are a dump of this history, which is lawful
pub record IsLawfulDump (bytes : List ℕ) (history : HistoryOfBytes) : Type 0 where
  pub read : IsDumpText bytes history
  pub lawful : first_fault bytes_eq history ≡ None

-- the dump so far, and how many queries were answered
pub record TalkState : Type 0 where
  pub dump : List ℕ
  pub answered : ℕ

-- at the start
abbrev pub start_of : List ℕ → TalkState
start_of dump = record { dump = dump; answered = 0 }

-- the line that says the youngest revision, and an empty line
abbrev pub ready_text : HistoryOfBytes → List ℕ
ready_text history = line_text (codes "ready " ++ decimal (length history - 1)) ++ line_text []

-- the answer to the line, with its number in the talk, and an empty line
abbrev pub query_text : HistoryOfBytes → ℕ → List ℕ → List ℕ
query_text history number line = line_text (answer_text number (line_answer history (trees_of bytes_eq history) line))

-- what is said for a turn
abbrev pub IsReply : TalkState → Turn → List ℕ → Type 0
IsReply state (query line) reply =
    (history : HistoryOfBytes) × IsLawfulDump state.dump history × (reply ≡ query_text history (state.answered + 1) line)
IsReply state (piece digits bytes) reply =
    (history : HistoryOfBytes) × IsLawfulDump (state.dump ++ bytes) history × (reply ≡ ready_text history)

abbrev pub after_turn : TalkState → Turn → TalkState
after_turn state (query line) = record { dump = state.dump; answered = state.answered + 1 }
after_turn state (piece digits bytes) = record { dump = state.dump ++ bytes; answered = state.answered }

abbrev pub after_turns : TalkState → List Turn → TalkState
after_turns state turns = fold after_turn state turns

-- what is said for these turns, one after another
unfoldable pub IsTalk : TalkState → List Turn → List ℕ → Type 0
IsTalk state [] said = said ≡ []
IsTalk state (turn ∷ turns) said =
    (reply rest : List ℕ) × IsReply state turn reply × IsTalk (after_turn state turn) turns rest × (said ≡ reply ++ rest)
