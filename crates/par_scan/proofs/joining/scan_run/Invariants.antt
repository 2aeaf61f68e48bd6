use Rattle.par_scan.specs.Parts.{IsFilled, IsUpTo}
use Rattle.par_scan.proofs.joining.scan_run.Given as goal

abbrev pub invariant-loop-item : goal.invariant-loop-item
invariant-loop-item g l = let m = g.M.Acts in IsFilled (IsUpTo m.act m.begin m.end l.items) 0 l.item-index l.joined.items
