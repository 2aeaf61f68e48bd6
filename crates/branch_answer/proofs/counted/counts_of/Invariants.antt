use Rattle.std.proofs.Common.{◌≡◌}
use Rattle.branch_answer.specs.KeptNew.{counts_to}
use Rattle.branch_answer.proofs.counted.counts_of.Given as goal

abbrev pub invariant-loop-rev : goal.invariant-loop-rev
invariant-loop-rev l = l.counts.items ≡ counts_to l.uncounted l.rev
