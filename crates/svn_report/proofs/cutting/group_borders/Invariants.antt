use Rattle.svn_report.proofs.BlockEnds.{AreGroupBordersUpTo}
use Rattle.svn_report.proofs.cutting.group_borders.Given as goal

abbrev pub invariant-loop-group : goal.invariant-loop-group
invariant-loop-group l = AreGroupBordersUpTo l.most l.borders l.group l.place l.kept.items
