use Rattle.branch_answer.proofs.LivesFound.{bound_of}
use Rattle.branch_answer.proofs.OperativeFound.{AreFound}
use Rattle.branch_answer.proofs.operative.operative_on.Given as goal

abbrev pub invariant-spans : goal.invariant-spans
invariant-spans l = AreFound l.fn.repo l.fn.path l.fn.lo l.fn.hi l.revs.items l.from

abbrev pub decreases-spans : goal.decreases-spans
decreases-spans l = bound_of l.from
