use Rattle.path_index.proofs.Common.{◌-◌, ◌<◌, Some, sym, ap, ◌∙◌, arith}
use Rattle.path_index.proofs.LastSet.{origin_in-stays}
use Rattle.path_index.proofs.index.Index.origin.Goals as goal

pub returns : goal.returns
returns c =
    let lo = c.in_ok-lo.field-0.lo in
    let low : lo < c.args.rev = omega (arith, c.in_ok-lo.ensures.within, c.if-lo-rev.false) in
    ap (λ path. Some (path, c.args.rev - 1)) c.in_ok-dup.ensures
    ∙ sym (origin_in-stays c.args.self.now.records c.args.path.now lo c.args.rev low c.in_ok-lo.ensures.stays)
