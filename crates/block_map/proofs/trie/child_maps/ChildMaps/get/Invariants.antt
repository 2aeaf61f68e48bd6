use Rattle.block_map.proofs.Common.{◌≡◌, child_in}
use Rattle.block_map.proofs.trie.child_maps.ChildMaps.get.Given as goal

abbrev pub invariant-loop-left : goal.invariant-loop-left
invariant-loop-left l = child_in l.self l.map l.bits ≡ child_in l.fn.self l.fn.map l.fn.name.0

abbrev pub decreases-loop-left : goal.decreases-loop-left
decreases-loop-left l = l.map.0
