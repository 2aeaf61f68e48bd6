use Rattle.par_scan.specs.Parts.{IsAfter, IsFilled}
use Rattle.par_scan.proofs.joining.join_each.Given as goal

abbrev pub invariant-loop-item : goal.invariant-loop-item
invariant-loop-item g l = let m = g.M.Acts in IsFilled (IsAfter m.act m.begin m.end l.before l.items) 0 l.item-index l.joined.items
