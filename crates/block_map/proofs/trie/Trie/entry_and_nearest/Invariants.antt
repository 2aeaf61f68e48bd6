use Rattle.block_map.proofs.Common.{take, mergeinfo_of, IsPositionOf, at_root, found_below}
use Rattle.block_map.proofs.NearestFound.{IsNearestUpTo}
use Rattle.block_map.proofs.trie.Trie.entry_and_nearest.Given as goal

abbrev pub invariant-loop-depth : goal.invariant-loop-depth
invariant-loop-depth l =
    IsPositionOf l.self l.fn.root (take l.depth l.fn.path) l.position
    × IsNearestUpTo (λ above. mergeinfo_of (found_below l.self (at_root l.fn.root) above)) l.fn.path l.depth l.nearest
