use Rattle.block_map.proofs.Common.{◌≡◌, ◌≤◌, [], ◌∷◌, None, Some, subst, arith, same_name, absent, as_at, AreBlocksFrom, block_records, block_trees, look_through, resolved, on_ok_weaker}
use Rattle.block_map.specs.Children.{AreOthersAt}
use Rattle.block_map.proofs.BlocksOfMaps.{AreBlocksFrom-front, end-front, end_of_blocks}
use Rattle.block_map.proofs.ChildrenFound.{HaveAllNames-blocks}
use Rattle.block_map.proofs.children.push_names_in_blocks.Goals as goal

pub push_names_through-requires-clause-in_order : goal.push_names_through-requires-clause-in_order
push_names_through-requires-clause-in_order c =
    let before = c.blocks_before.ensures in
    AreBlocksFrom-front 0 (block_trees c.blocks_before.result.now) before.more (subst (AreBlocksFrom 0) before.split c.requires.in_order)

pub push_names_through-requires-clause-within : goal.push_names_through-requires-clause-within
push_names_through-requires-clause-within c =
    let all = block_trees c.args.blocks.now in
    let within : c.args.tick ≤ end_of_blocks 0 all = omega (arith, c.requires.within) in
    omega (arith, end-front 0 c.args.tick c.args.path.now all (block_trees c.blocks_before.result.now) c.requires.in_order c.blocks_before.ensures within)

pub returns : goal.returns
returns c =
    let tick = c.args.tick in
    let front = block_trees c.blocks_before.result.now in
    let names = c.push_names_through.new.names.items in
    on_ok_weaker c.push_names_through.result
    (λ others.
    HaveAllNames-blocks (block_trees c.args.blocks.now) front tick c.args.path.now names c.requires.in_order c.blocks_before.ensures c.requires.within
    (subst (λ path. AreOthersAt (λ name _. resolved 0 (look_through same_name 0 (block_records front) (as_at (Some (record { path = path; tick = tick })) (name ∷ []))) ≡ absent) names None)
    c.in_ok-path.ensures others))
    c.push_names_through.ensures
