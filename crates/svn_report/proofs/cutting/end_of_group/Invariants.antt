use Rattle.svn_report.proofs.Common.{◌-◌}
use Rattle.svn_report.proofs.BlockEnds.{IsGroupEndUpTo}
use Rattle.svn_report.proofs.cutting.end_of_group.Given as goal

abbrev pub invariant-loop-place : goal.invariant-loop-place
invariant-loop-place l = IsGroupEndUpTo l.most l.borders l.group l.start l.place

abbrev pub decreases-loop-place : goal.decreases-loop-place
decreases-loop-place l = l.last - l.place
