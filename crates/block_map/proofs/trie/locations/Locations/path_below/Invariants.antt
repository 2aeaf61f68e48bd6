use Rattle.block_map.proofs.LocationPaths.{AreCollected, most_above}
use Rattle.block_map.proofs.trie.locations.Locations.path_below.Given as goal

abbrev pub invariant-loop-top : goal.invariant-loop-top
invariant-loop-top l = AreCollected l.fn.self l.fn.id l.fn.rest l.top l.parts.items

abbrev pub decreases-loop-top : goal.decreases-loop-top
decreases-loop-top l = most_above l.top.above
