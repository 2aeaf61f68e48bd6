use Rattle.block_map.proofs.Common.{[], ◌∷◌, ap, sym, subst, ◌∙◌, same_name, AreBlocksFrom, block_records, block_trees, resolved, IsFoundUpTo, look_through, looked_view}
use Rattle.block_map.proofs.BlocksOfMaps.{AreBlocksFrom-back, AreBlocksFrom-front, end_of_blocks, last-end, last-start, through-earlier, through-last, trees-last}
use Rattle.block_map.proofs.map.look_through.Goals as goal

pub look_through-requires-clause-trees : goal.look_through-requires-clause-trees
look_through-requires-clause-trees c =
    let earlier = block_trees c.in-Some.earlier.now in
    let block = c.deref.result.now in
    let split = trees-last c.loop-last.left.now c.in-Some.earlier.now c.in-Some.last.now block c.in-Some.ensures.cases.0 c.deref.ensures in
    (AreBlocksFrom-back c.args.lo earlier (block ∷ []) (subst (AreBlocksFrom c.args.lo) split c.loop-last.invariant.0)).2.is

pub look_through-requires-clause-within : goal.look_through-requires-clause-within
look_through-requires-clause-within c =
    let earlier = block_trees c.in-Some.earlier.now in
    let block = c.deref.result.now in
    let split = trees-last c.loop-last.left.now c.in-Some.earlier.now c.in-Some.last.now block c.in-Some.ensures.cases.0 c.deref.ensures in
    let end = ap (end_of_blocks c.args.lo) split ∙ sym (last-end c.args.lo earlier block (subst (AreBlocksFrom c.args.lo) split c.loop-last.invariant.0)) in
    subst (λ tick. IsFoundUpTo tick (looked_view c.args.path.now c.loop-last.looked)) end c.loop-last.invariant.1

pub loop-last-preserved : goal.loop-last-preserved
loop-last-preserved c =
    let earlier = block_trees c.in-Some.earlier.now in
    let block = c.deref.result.now in
    let before = looked_view c.args.path.now c.loop-last.looked in
    let after = looked_view c.args.path.now c.in_ok-looked.looked in
    let split = trees-last c.loop-last.left.now c.in-Some.earlier.now c.in-Some.last.now block c.in-Some.ensures.cases.0 c.deref.ensures in
    let are = subst (AreBlocksFrom c.args.lo) split c.loop-last.invariant.0 in (
      AreBlocksFrom-front c.args.lo earlier (block ∷ []) are,
      subst (λ tick. IsFoundUpTo tick after) (last-start c.args.lo earlier block are) c.in_ok-looked.ensures.earlier,
      through-earlier c.args.lo earlier block after (look_through same_name block.start block.records.items before) are c.in_ok-looked.ensures.exact
          ∙ ap (resolved c.args.lo) (sym (through-last c.args.lo earlier block before are))
          ∙ ap (λ blocks. resolved c.args.lo (look_through same_name c.args.lo (block_records blocks) before)) (sym split)
          ∙ c.loop-last.invariant.2,
    )
