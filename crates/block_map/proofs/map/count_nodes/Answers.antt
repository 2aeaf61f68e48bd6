use Rattle.block_map.proofs.Common.{◌≡◌, ◌++◌, ap, drop, length, subst, sym, take, ◌∙◌, arith, arc_value, Arc, Global, map-append, take-append-drop, AreBlocksFrom, block_trees, Trees}
use Rattle.block_map.proofs.BlocksOfMaps.{AreBlocksFrom-front, each-block, block_nodes-small}
use Rattle.block_map.proofs.map.count_nodes.Goals as goal

pub overflow_add-nodes : goal.overflow_add-nodes
overflow_add-nodes c =
    let blocks = c.args.blocks.now in
    let i = c.loop-block.block-index in
    let split : block_trees blocks ≡ block_trees (take i blocks) ++ block_trees (drop i blocks) =
    sym (ap block_trees (take-append-drop i blocks)) ∙ map-append arc_value (take i blocks) (drop i blocks) in
    let before = block_nodes-small c.requires.0 (block_trees (take i blocks))
    (AreBlocksFrom-front c.requires.0 (block_trees (take i blocks)) (block_trees (drop i blocks)) (subst (AreBlocksFrom c.requires.0) split c.requires.1)) in
    let each = each-block c.requires.0 blocks i c.block-item.result c.requires.1 c.loop-block-test.true in
    let same : c.deref.result.now ≡ _ = c.deref.ensures ∙ ap (λ (block : Arc Trees Global). arc_value block) c.block-item.is in
    omega (arith, c.loop-block.invariant, c.len.ensures, ap (λ (trees : Trees). length trees.trie.nodes) same, each.few, each.is.few, before)
