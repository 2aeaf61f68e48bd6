use Rattle.std.proofs.Common.{◌+◌, ◌*◌, length}
use Rattle.par_scan.proofs.scanning.+join_across.Given as goal

abbrev pub decreases-join_front : goal.decreases-join_front
decreases-join_front g l = 2 * length l.front.items + 1

abbrev pub decreases-join_back : goal.decreases-join_back
decreases-join_back g l = 2 * length l.back.items + 1

abbrev pub decreases-join_across : goal.decreases-join_across
decreases-join_across g l = 2 * length l.items.items
