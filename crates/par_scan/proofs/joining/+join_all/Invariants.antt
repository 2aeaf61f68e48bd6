use Rattle.std.proofs.Common.{length}
use Rattle.par_scan.proofs.joining.+join_all.Given as goal

abbrev pub decreases-join_all : goal.decreases-join_all
decreases-join_all g l = length l.items.items
