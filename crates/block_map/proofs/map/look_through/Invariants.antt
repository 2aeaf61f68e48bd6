use Rattle.block_map.proofs.Common.{◌≡◌, length, same_name, AreBlocksFrom, block_records, block_trees, resolved, IsFoundUpTo, look_through, looked_view}
use Rattle.block_map.proofs.BlocksOfMaps.{end_of_blocks}
use Rattle.block_map.proofs.map.look_through.Given as goal

-- the blocks that are left say of what is said so far what all blocks say
abbrev pub invariant-loop-last : goal.invariant-loop-last
invariant-loop-last l =
    AreBlocksFrom l.fn.lo (block_trees l.left)
    × IsFoundUpTo (end_of_blocks l.fn.lo (block_trees l.left)) (looked_view l.fn.path l.looked)
    × (resolved l.fn.lo (look_through same_name l.fn.lo (block_records (block_trees l.left)) (looked_view l.fn.path l.looked))
    ≡ resolved l.fn.lo (look_through same_name l.fn.lo (block_records (block_trees l.fn.blocks)) (looked_view l.fn.path l.fn.looked)))

abbrev pub decreases-loop-last : goal.decreases-loop-last
decreases-loop-last l = length l.left
