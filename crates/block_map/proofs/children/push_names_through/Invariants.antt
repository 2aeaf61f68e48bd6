use Rattle.block_map.proofs.Common.{◌≤◌, length, IfSome, AreBlocksFrom, block_trees}
use Rattle.block_map.specs.Children.{AreOthersAt}
use Rattle.block_map.proofs.BlocksOfMaps.{end_of_blocks}
use Rattle.block_map.proofs.ChildrenFound.{SaysAsAll}
use Rattle.block_map.proofs.children.push_names_through.Given as goal

-- the blocks that are left say of what was found what all blocks say
abbrev pub invariant-loop-last : goal.invariant-loop-last
invariant-loop-last l =
    AreBlocksFrom 0 (block_trees l.left)
    × IfSome l.found (λ location. location.tick ≤ end_of_blocks 0 (block_trees l.left))
    × AreOthersAt (SaysAsAll (block_trees l.fn.blocks) l.fn.found (block_trees l.left)) l.names.items l.found

abbrev pub decreases-loop-last : goal.decreases-loop-last
decreases-loop-last l = length l.left
