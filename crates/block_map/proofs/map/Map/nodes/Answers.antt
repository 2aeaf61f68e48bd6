use Rattle.block_map.proofs.Common.{length, sym, ap, subst, arith, AreBlocksFrom, block_nodes, block_trees, nodes_for}
use Rattle.block_map.proofs.BlocksOfMaps.{block_nodes-few, block_nodes-records}
use Rattle.block_map.proofs.map.Map.nodes.Goals as goal

pub count_nodes-requires : goal.count_nodes-requires
count_nodes-requires c = (c.self.inside.lo, subst (λ items. AreBlocksFrom c.self.inside.lo (block_trees items)) (sym c.as_slice.ensures.value) c.self.invariant)

pub returns-clause-few : goal.returns-clause-few
returns-clause-few c =
    let blocks = block_trees c.self.inside.blocks.items in
    omega (arith, c.count_nodes.ensures, ap (λ items. block_nodes (block_trees items)) c.as_slice.ensures.value, block_nodes-few c.self.inside.lo blocks c.self.invariant, ap (λ map. length map.records) c.self.view_is)

pub returns-clause-for_records : goal.returns-clause-for_records
returns-clause-for_records c =
    let blocks = block_trees c.self.inside.blocks.items in
    omega (arith, c.count_nodes.ensures, ap (λ items. block_nodes (block_trees items)) c.as_slice.ensures.value, block_nodes-records c.self.inside.lo blocks c.self.invariant, ap (λ map. nodes_for map.records) c.self.view_is)
