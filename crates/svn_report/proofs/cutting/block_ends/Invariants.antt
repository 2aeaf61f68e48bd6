use Rattle.svn_report.proofs.Common.{◌-◌}
use Rattle.svn_report.proofs.BlockEnds.{AreEndsUpTo}
use Rattle.svn_report.proofs.cutting.block_ends.Given as goal

abbrev pub invariant-loop-end : goal.invariant-loop-end
invariant-loop-end l = AreEndsUpTo l.cuts l.last l.end l.ends.items

abbrev pub decreases-loop-end : goal.decreases-loop-end
decreases-loop-end l = l.last - l.end
