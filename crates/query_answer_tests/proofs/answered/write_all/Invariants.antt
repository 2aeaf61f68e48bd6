use Rattle.query_answer.specs.Worker.{IsSeenOf}
use Rattle.query_answer_tests.proofs.answered.write_all.Given as goal

abbrev pub invariant-loop-line : goal.invariant-loop-line
invariant-loop-line l = IsSeenOf l.repo.values l.memo l.seen
