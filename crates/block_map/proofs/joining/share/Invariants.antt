use Rattle.block_map.proofs.Common.{◌≡◌, ◌++◌, take, block_trees}
use Rattle.block_map.proofs.joining.share.Given as goal

abbrev pub invariant-loop-block : goal.invariant-loop-block
invariant-loop-block l = block_trees l.shared.items ≡ block_trees l.fn.shared.items ++ block_trees (take l.block-index l.fn.blocks)
