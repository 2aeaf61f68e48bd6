use Rattle.block_map.proofs.Common.{length, look_in}
use Rattle.block_map.proofs.NearestFound.{HasNoneBelow}
use Rattle.block_map.proofs.map.Map.nearest_above.Given as goal

abbrev pub invariant-loop-mi : goal.invariant-loop-mi
invariant-loop-mi l = HasNoneBelow (look_in l.self l.fn.tick) l.fn.path l.above l.entry

abbrev pub decreases-loop-mi : goal.decreases-loop-mi
decreases-loop-mi l = length l.above
