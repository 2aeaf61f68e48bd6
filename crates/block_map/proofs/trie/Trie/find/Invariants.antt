use Rattle.block_map.proofs.Common.{take, IsPositionOf}
use Rattle.block_map.proofs.trie.Trie.find.Given as goal

abbrev pub invariant-loop-depth : goal.invariant-loop-depth
invariant-loop-depth l = IsPositionOf l.self l.fn.root (take l.depth l.fn.path) l.position
