use Rattle.block_map.proofs.Common.{◌≡◌, take, block_nodes, block_trees}
use Rattle.block_map.proofs.map.count_nodes.Given as goal

abbrev pub invariant-loop-block : goal.invariant-loop-block
invariant-loop-block l = l.nodes ≡ block_nodes (block_trees (take l.block-index l.fn.blocks))
