use Rattle.std.proofs.Common.{◌-◌}
use Rattle.branch_answer.proofs.Halves.{AreHalves}
use Rattle.branch_answer.proofs.presence.last_with.Given as goal

abbrev pub invariant-halves : goal.invariant-halves
invariant-halves l = AreHalves l.fn.repo l.fn.path l.fn.with l.fn.without l.low l.high

abbrev pub decreases-halves : goal.decreases-halves
decreases-halves l = l.high - l.low
