use Rattle.svn_report.proofs.Common.{IfOk-weaker}
use Rattle.svn_report.proofs.BlockEnds.{AreBorders-groups}
use Rattle.svn_report.proofs.cutting.share_out.Goals as goal

pub returns-clause-borders : goal.returns-clause-borders
returns-clause-borders c =
    IfOk-weaker c.group_borders.result _ _
    (λ kept are. AreBorders-groups c.args.most c.args.borders.now kept.items c.requires.borders are)
    c.group_borders.ensures
