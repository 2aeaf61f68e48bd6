use Rattle.block_map.proofs.Common.{◌≤◌, [], ◌∷◌, ap, nil_from_length, sym, subst, ◌∙◌, IfSome, AreBlocksFrom, block_trees}
use Rattle.block_map.specs.Children.{AreOthersAt}
use Rattle.block_map.proofs.BlocksOfMaps.{AreBlocksFrom-back, AreBlocksFrom-front, end_of_blocks, last-end, last-start, trees-last}
use Rattle.block_map.proofs.ChildrenFound.{AreOthersAt-earlier, AreOthersAt-end, SaysAsAll}
use Rattle.block_map.proofs.children.push_names_through.Goals as goal

pub push_names-requires-clause-trees : goal.push_names-requires-clause-trees
push_names-requires-clause-trees c =
    let earlier = block_trees c.in-Some.earlier.now in
    let block = c.deref.result.now in
    let split = trees-last c.loop-last.left.now c.in-Some.earlier.now c.in-Some.last.now block c.in-Some.ensures.cases.0 c.deref.ensures in
    (AreBlocksFrom-back 0 earlier (block ∷ []) (subst (AreBlocksFrom 0) split c.loop-last.invariant.0)).2.is

pub push_names-requires-clause-within : goal.push_names-requires-clause-within
push_names-requires-clause-within c =
    let earlier = block_trees c.in-Some.earlier.now in
    let block = c.deref.result.now in
    let split = trees-last c.loop-last.left.now c.in-Some.earlier.now c.in-Some.last.now block c.in-Some.ensures.cases.0 c.deref.ensures in
    let end = ap (end_of_blocks 0) split ∙ sym (last-end 0 earlier block (subst (AreBlocksFrom 0) split c.loop-last.invariant.0)) in
    subst (λ tick. IfSome c.loop-last.found (λ location. location.tick ≤ tick)) end c.loop-last.invariant.1

pub loop-last-preserved : goal.loop-last-preserved
loop-last-preserved c =
    let all = block_trees c.args.blocks.now in
    let earlier = block_trees c.in-Some.earlier.now in
    let block = c.deref.result.now in
    let before = c.loop-last.found in
    let after = c.in_ok-found.found in
    let split = trees-last c.loop-last.left.now c.in-Some.earlier.now c.in-Some.last.now block c.in-Some.ensures.cases.0 c.deref.ensures in
    let are = subst (AreBlocksFrom 0) split c.loop-last.invariant.0 in (
      AreBlocksFrom-front 0 earlier (block ∷ []) are,
      subst (λ tick. IfSome after (λ location. location.tick ≤ tick)) (last-start 0 earlier block are) c.in_ok-found.ensures.earlier,
      AreOthersAt-earlier all earlier c.args.found before after block c.loop-last.names.items c.push_names.new.names.items are c.in_ok-found.ensures.kept
          (subst (λ left. AreOthersAt (SaysAsAll all c.args.found left) c.loop-last.names.items before) split c.loop-last.invariant.2)
          c.in_ok-found.ensures.others,
    )

pub returns : goal.returns
returns c =
    let all = block_trees c.args.blocks.now in
    let names = c.loop-last.names.items in
    let none = nil_from_length c.loop-last.left.now c.in_default.ensures.cases in
    AreOthersAt-end all c.args.found c.loop-last.found names
    (subst (λ left. AreOthersAt (SaysAsAll all c.args.found (block_trees left)) names c.loop-last.found) none c.loop-last.invariant.2)
