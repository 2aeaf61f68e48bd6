use Rattle.block_map.proofs.trie.child_maps.ChildMaps.+set_bits.Given as goal

abbrev pub decreases-set_bits : goal.decreases-set_bits
decreases-set_bits l = l.map.0
