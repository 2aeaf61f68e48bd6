use Rattle.std.proofs.Common.{sym, ◌∙◌}
use Rattle.svn_text.proofs.Cuts.{IsCutAtLast-found}
use Rattle.svn_text.proofs.cut.split_at_last.Goals as goal

pub returns : goal.returns
returns c =
    IsCutAtLast-found c.args.byte _ _ _ _ _ c.in_ok-memrchr.ensures c.split_at.ensures.front (sym c.split_at.ensures.back ∙ c.in_ok-back.ensures.cases.0)
