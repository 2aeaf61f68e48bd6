use Rattle.par_scan.specs.Parts.{IsFilled}
use Rattle.par_scan.proofs.making.make_run.Given as goal

abbrev pub invariant-loop-index : goal.invariant-loop-index
invariant-loop-index g l = IsFilled (g.K.Make.gives l.maker) l.start l.index l.made.items
