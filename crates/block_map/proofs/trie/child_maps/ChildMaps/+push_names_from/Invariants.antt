use Rattle.block_map.proofs.trie.child_maps.ChildMaps.+push_names_from.Given as goal

abbrev pub decreases-push_names_from : goal.decreases-push_names_from
decreases-push_names_from l = l.map.0
