use Rattle.std.proofs.Common.{take}
use Rattle.branch_answer.specs.KeptHoldings.{AreMarked, mark_of}
use Rattle.branch_answer.proofs.holdings.Holdings.mark.Given as goal

abbrev pub invariant-loop-rev : goal.invariant-loop-rev
invariant-loop-rev l = AreMarked l.initial.self l.self (mark_of (take l.rev-index l.revs) (λ _. l.how))
