use Rattle.block_map.proofs.Common.{take}
use Rattle.block_map.specs.Trie.{standing_below}
use Rattle.block_map.proofs.ChildrenFound.{AreChildrenAmong}
use Rattle.block_map.proofs.trie.Trie.children_of.Given as goal

abbrev pub invariant-loop-name : goal.invariant-loop-name
invariant-loop-name l = AreChildrenAmong (standing_below l.self l.fn.root) l.fn.path (take l.name-index l.fn.names) l.children.items
