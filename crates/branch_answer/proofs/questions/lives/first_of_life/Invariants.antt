use Rattle.branch_answer.proofs.Halves.{IsLivingFrom}
use Rattle.branch_answer.proofs.questions.lives.first_of_life.Given as goal

abbrev pub invariant-copies : goal.invariant-copies
invariant-copies l = IsLivingFrom l.fn.repo l.fn.path l.fn.rev l.first

abbrev pub decreases-copies : goal.decreases-copies
decreases-copies l = l.first
