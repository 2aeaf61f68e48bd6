use Rattle.std.proofs.Common.{length}
use Rattle.block_map_tests.proofs.totals.+all_fit.Given as goal

abbrev pub decreases-all_fit : goal.decreases-all_fit
decreases-all_fit g l = length l.items.now
