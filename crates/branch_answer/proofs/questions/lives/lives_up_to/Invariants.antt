use Rattle.branch_answer.proofs.LivesFound.{AreFound, bound_of}
use Rattle.branch_answer.proofs.questions.lives.lives_up_to.Given as goal

abbrev pub invariant-lives : goal.invariant-lives
invariant-lives l = AreFound l.fn.repo l.fn.path l.fn.top l.lives.items l.from

abbrev pub decreases-lives : goal.decreases-lives
decreases-lives l = bound_of l.from
