use Rattle.block_map.proofs.Common.{◌++◌, [], ◌∷◌, AreBlocksFrom, block_trees}
use Rattle.block_map.proofs.BlocksOfMaps.{AreBlocksFrom-back, AreBlocksFrom-front, last-start, trees-last}
use Rattle.block_map.proofs.map.Map.split_off_last.Goals as goal
use Rattle.block_map.proofs.map.Map.split_off_last.Goals.{In-Ok}

-- the blocks are the other ones and the last one
blocks_of : (c : In-Ok) → AreBlocksFrom c.self.inside.lo (block_trees c.pop.new.self.items ++ c.in-Ok.trees ∷ [])
blocks_of c =
    rw (trees-last c.self.inside.blocks.items c.pop.new.self.items c.in-Some.last c.in-Ok.trees c.in-Some.ensures.items c.in-Ok.ensures.ok)
    at c.self.invariant

pub invariant_of-result-in-Ok : goal.invariant_of-result-in-Ok
invariant_of-result-in-Ok c = AreBlocksFrom-front c.self.inside.lo (block_trees c.pop.new.self.items) (c.in-Ok.trees ∷ []) (blocks_of c)

pub returns-in-Ok-clause-start : goal.returns-in-Ok-clause-start
returns-in-Ok-clause-start c = last-start c.self.inside.lo (block_trees c.pop.new.self.items) c.in-Ok.trees (blocks_of c)

pub returns-in-Ok-clause-trees : goal.returns-in-Ok-clause-trees
returns-in-Ok-clause-trees c = (AreBlocksFrom-back c.self.inside.lo (block_trees c.pop.new.self.items) (c.in-Ok.trees ∷ []) (blocks_of c)).2
