use Rattle.block_map.proofs.Common.{◌≤◌, Some, length, AreBlocksFrom, block_trees}
use Rattle.block_map.proofs.BlocksOfMaps.{end_of_blocks}
use Rattle.block_map.proofs.MergeinfoInBlocks.{LackAsLeft}
use Rattle.block_map.proofs.mergeinfo_below.may_be_through.Given as goal

-- where the blocks that are left say that a path has no mergeinfo, all blocks say so
abbrev pub invariant-loop-last : goal.invariant-loop-last
invariant-loop-last l =
    AreBlocksFrom 0 (block_trees l.left)
    × (l.found.tick ≤ end_of_blocks 0 (block_trees l.left))
    × LackAsLeft (block_trees l.fn.blocks) l.fn.found (block_trees l.left) (Some l.found)

abbrev pub decreases-loop-last : goal.decreases-loop-last
decreases-loop-last l = length l.left
