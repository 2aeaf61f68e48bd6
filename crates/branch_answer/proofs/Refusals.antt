-- What is told where a peg is refused.
use Rattle.svn_dump.specs.Dump.{DumpValue}
use Rattle.query_answer.specs.Answer.{Answer, if_peg_exists}
use Rattle.query_answer.specs.Peg.{Peg, PegValue, peg_view}
use Rattle.query_answer.specs.Repo.{IsPegRefused, trees_in_bytes}
use Rattle.query_answer.specs.declared.unanswered.Unanswered.{Unanswered}
use Rattle.query_answer.specs.declared.unanswered.Unanswered.TheVariants.{Memory, Refused}
use Rattle.branch_answer.specs.Told.{IsUntold}

pub IsUntold-refused : (dump : DumpValue) (peg : PegValue) (error : Unanswered) (answer : Peg → Answer) → IsPegRefused dump peg error
    → IsUntold (if_peg_exists (trees_in_bytes dump) (peg_view peg) (answer (peg_view peg))) error
IsUntold-refused dump peg (Refused status) answer refused = refused.0 (answer (peg_view peg))
IsUntold-refused dump peg Memory answer refused = tt
