use Rattle.path_index.proofs.Common.{length, sym, ap, arith, length-append}
use Rattle.path_index.proofs.index.Index.grow.Goals as goal

pub invariant_of-result : goal.invariant_of-result
invariant_of-result c =
    let inside = c.self.inside in
    let long = length-append inside.records c.args.records.now in
    rw c.in_ok-with.ensures (c.in_ok-add_all.ensures inside.records (sym c.len.ensures) c.self.invariant.0, omega (arith, c.requires, long, ap (λ i. i.first) c.self.view_is, ap (λ i. length i.records) c.self.view_is))
