use Rattle.std.proofs.Common.{take}
use Rattle.range_list.specs.Rangelist.{inheritability_of}
use Rattle.branch_answer.specs.KeptHolding.{holding_by}
use Rattle.branch_answer.specs.KeptHoldings.{AreMarked, mark_of}
use Rattle.branch_answer.proofs.holdings.Holdings.mark_merged.Given as goal

abbrev pub invariant-loop-rev : goal.invariant-loop-rev
invariant-loop-rev l = AreMarked l.initial.self l.self (mark_of (take l.rev-index l.revs) (λ rev. holding_by l.whole l.part (inheritability_of l.ranges rev)))
