use Rattle.block_map.proofs.Common.{◌+◌}
use Rattle.block_map.proofs.trie.child_maps.ChildMaps.+split.Given as goal

abbrev pub decreases-split : goal.decreases-split
decreases-split l = l.one + l.other
