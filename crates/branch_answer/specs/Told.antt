-- What is told of a question: result lines, or why there are none.
use Rattle.std.specs.Prelude.{◌≡◌, List, ℕ, ◌++◌, ⊤}
use Rattle.query_answer.specs.Answer.{Answer, ok_answer, refused_answer}
use Rattle.query_answer.specs.declared.unanswered.Unanswered.{Unanswered}
use Rattle.query_answer.specs.declared.unanswered.Unanswered.TheVariants.{Memory, Refused}
use Rattle.branch_answer.specs.QuestionAnswer.{lines_text}

-- the answer has result lines, which come to the text
pub record TellsLines (answer : Answer) (old new : List ℕ) : Type 0 where
  pub lines : List (List ℕ)
  pub is : answer ≡ ok_answer lines
  pub text : new ≡ old ++ lines_text lines

-- the answer has this status, or memory ran out
abbrev pub IsUntold : Answer → Unanswered → Type 0
IsUntold answer (Refused status) = answer ≡ refused_answer status
IsUntold answer Memory = ⊤
