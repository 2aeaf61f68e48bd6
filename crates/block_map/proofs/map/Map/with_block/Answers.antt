use Rattle.block_map.proofs.Common.{◌<◌, [], ◌∷◌, length, ap, sym, ◌∙◌, arith, map-append, arc_value, block_trees, hi_of}
use Rattle.std.proofs.lemmas.Bool.Decides.{nat_tests}
use Rattle.block_map.proofs.BlocksOfMaps.{AreBlocksFrom-append}
use Rattle.block_map.proofs.map.Map.with_block.Goals as goal

pub invariant_of-result : goal.invariant_of-result
invariant_of-result c =
    let lo = c.self.inside.lo in
    let front = c.self.inside.blocks.items in
    let block = c.in_ok-block.block in
    let some : 0 < length c.args.trees.records.items = grind (arith, nat_tests) in
    rw (c.in_ok-push.ensures.items, map-append arc_value front (block ∷ []), c.in_ok-block.ensures.ok)
    (AreBlocksFrom-append lo (block_trees front) (c.args.trees ∷ []) c.self.invariant
    (c.requires.start ∙ ap hi_of (sym c.self.view_is), some, c.requires.trees, tt))
