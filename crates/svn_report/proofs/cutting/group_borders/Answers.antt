use Rattle.svn_report.proofs.Common.{arith}
use Rattle.svn_report.proofs.BlockEnds.{AreGroupBorders-all, AreGroupBordersUpTo-more}
use Rattle.svn_report.proofs.cutting.group_borders.Goals as goal

pub loop-group-preserved : goal.loop-group-preserved
loop-group-preserved c =
    rw c.in_ok-push.ensures.items
    (AreGroupBordersUpTo-more _ _ c.loop-group.group c.loop-group.place c.end_of_group-place.result c.loop-group.kept.items c.loop-group.invariant (omega arith) c.loop-group-test.true c.end_of_group-place.ensures)

pub returns : goal.returns
returns c =
    rw c.in_ok-push-2.ensures.items
    (AreGroupBorders-all _ _ c.loop-group.group c.loop-group.place _ c.loop-group.kept.items c.loop-group.invariant (omega arith) (omega arith) (omega arith))
