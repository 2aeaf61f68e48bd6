-- What is answered where a query has no result lines.
use Rattle.std.specs.Prelude.{IfOk, Result, Ok, Err, alloc_error}
use Rattle.std.specs.declared.alloc.AllocError.{AllocError}
use Rattle.svn_dump.specs.Dump.{DumpValue}
use Rattle.query_answer.specs.Answer.{Answer, IsAnswer}
use Rattle.query_answer.specs.declared.answers.Answer.{Answer as KeptAnswer}
use Rattle.query_answer.specs.declared.answers.Answer.TheVariants as kept
use Rattle.query_answer.specs.declared.unanswered.Unanswered.{Unanswered}
use Rattle.query_answer.specs.declared.unanswered.Unanswered.TheVariants.{Memory, Refused}

-- what the caller gets: the status alone, where the query is refused
abbrev pub given : Result KeptAnswer Unanswered → Result KeptAnswer AllocError
given (Ok answer) = Ok answer
given (Err (Refused status)) = Ok (kept.Refused status)
given (Err Memory) = Err alloc_error

-- the caller gets this answer, with paths of the dump, unless memory runs out
abbrev pub HasAnswer : DumpValue → Answer → Result KeptAnswer Unanswered → Type 0
HasAnswer dump answer result = IfOk (given result) (IsAnswer dump.names answer)
