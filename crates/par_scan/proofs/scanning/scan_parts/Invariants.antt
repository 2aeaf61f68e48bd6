use Rattle.par_scan.specs.Parts.{IsFilled, IsUpToPart}
use Rattle.par_scan.proofs.scanning.scan_parts.Given as goal

abbrev pub invariant-loop-part : goal.invariant-loop-part
invariant-loop-part g l = let m = g.M.Acts in IsFilled (IsUpToPart m.act m.begin m.end l.items l.size) 0 l.part l.before.items
