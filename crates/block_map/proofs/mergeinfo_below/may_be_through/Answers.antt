use Rattle.block_map.proofs.Common.{◌≤◌, [], ◌∷◌, None, Some, ap, refl, sym, subst, ◌∙◌, AreBlocksFrom, block_trees, look_through_trees, resolved, as_at}
use Rattle.block_map.specs.MergeinfoBelow.{IsBelowUpTo, IsMergeinfoBelow}
use Rattle.block_map.specs.declared.mergeinfo_below.MergeinfoBelow.TheVariants as below
use Rattle.block_map.proofs.BlocksOfMaps.{AreBlocksFrom-back, AreBlocksFrom-front, end_of_blocks, last-end, last-start, trees-last}
use Rattle.block_map.proofs.MergeinfoInBlocks.{LackAsLeft, LackAsLeft-earlier}
use Rattle.block_map.proofs.mergeinfo_below.may_be_through.Goals as goal

pub mergeinfo_below-requires-clause-trees : goal.mergeinfo_below-requires-clause-trees
mergeinfo_below-requires-clause-trees c =
    let earlier = block_trees c.in-Some.earlier.now in
    let block = c.deref.result.now in
    let split = trees-last c.loop-last.left.now c.in-Some.earlier.now c.in-Some.last.now block c.in-Some.ensures.cases.0 c.deref.ensures in
    (AreBlocksFrom-back 0 earlier (block ∷ []) (subst (AreBlocksFrom 0) split c.loop-last.invariant.0)).2.is

pub mergeinfo_below-requires-clause-within : goal.mergeinfo_below-requires-clause-within
mergeinfo_below-requires-clause-within c =
    let earlier = block_trees c.in-Some.earlier.now in
    let block = c.deref.result.now in
    let split = trees-last c.loop-last.left.now c.in-Some.earlier.now c.in-Some.last.now block c.in-Some.ensures.cases.0 c.deref.ensures in
    let end = ap (end_of_blocks 0) split ∙ sym (last-end 0 earlier block (subst (AreBlocksFrom 0) split c.loop-last.invariant.0)) in
    subst (λ tick. c.loop-last.found.tick ≤ tick) end c.loop-last.invariant.1

pub loop-last-preserved : goal.loop-last-preserved
loop-last-preserved c =
    let all = block_trees c.args.blocks.now in
    let earlier = block_trees c.in-Some.earlier.now in
    let block = c.deref.result.now in
    let before = c.loop-last.found in
    let location = c.in-Some-below.location in
    let split = trees-last c.loop-last.left.now c.in-Some.earlier.now c.in-Some.last.now block c.in-Some.ensures.cases.0 c.deref.ensures in
    let are = subst (AreBlocksFrom 0) split c.loop-last.invariant.0 in
    let below_is = c.in-AsAt.is ∙ ap below.AsAt c.in-Some-below.is in
    let earlier_is : location.tick ≤ block.start = subst (IsBelowUpTo block.start) below_is c.in_ok-below.ensures.earlier in (
      AreBlocksFrom-front 0 earlier (block ∷ []) are,
      subst (λ tick. location.tick ≤ tick) (last-start 0 earlier block are) earlier_is,
      LackAsLeft-earlier all earlier c.args.found before (Some location) block are
          (subst (λ left. LackAsLeft all c.args.found left (Some before)) split c.loop-last.invariant.2)
          (subst (IsMergeinfoBelow (λ rest. resolved block.start (look_through_trees block (as_at (Some before) rest)))) below_is c.in_ok-below.ensures.says),
    )

pub returns-in_default-below : goal.returns-in_default-below
returns-in_default-below c = λ is_false name rest.
    let all = block_trees c.args.blocks.now in
    let earlier = block_trees c.in-Some.earlier.now in
    let block = c.deref.result.now in
    let before = c.loop-last.found in
    let split = trees-last c.loop-last.left.now c.in-Some.earlier.now c.in-Some.last.now block c.in-Some.ensures.cases.0 c.deref.ensures in
    let are = subst (AreBlocksFrom 0) split c.loop-last.invariant.0 in
    let below_is = c.in-AsAt.is ∙ ap below.AsAt c.in_default-below.is in
    LackAsLeft-earlier all earlier c.args.found before None block are
    (subst (λ left. LackAsLeft all c.args.found left (Some before)) split c.loop-last.invariant.2)
    (subst (IsMergeinfoBelow (λ rest. resolved block.start (look_through_trees block (as_at (Some before) rest)))) below_is c.in_ok-below.ensures.says)
    name rest refl
