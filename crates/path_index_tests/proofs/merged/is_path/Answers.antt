use Rattle.std.proofs.Common.{sym, ◌∙◌}
use Rattle.svn_path.proofs.Orders.{paths_eq-Decides}
use Rattle.path_index_tests.proofs.merged.is_path.Goals as goal

pub returns : goal.returns
returns c = λ is.
    sym c.parts.ensures ∙ (paths_eq-Decides c.parts.result.now c.args.wanted.now).0 (sym c.eq.ensures ∙ is)
