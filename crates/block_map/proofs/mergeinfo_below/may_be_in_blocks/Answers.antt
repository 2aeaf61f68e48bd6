use Rattle.block_map.proofs.Common.{◌≡◌, ◌≤◌, List, ◌∷◌, None, Some, arith, subst, IfOk-weaker, same_name, NameId, AreBlocksFrom, block_records, block_trees, look, mergeinfo_of, resolved}
use Rattle.std.specs.Prelude.{IsFalse}
use Rattle.block_map.specs.MergeinfoBelow.{LackMergeinfoBelow}
use Rattle.block_map.proofs.BlocksOfMaps.{AreBlocksFrom-front, end-front, end_of_blocks}
use Rattle.block_map.proofs.MergeinfoInBlocks.{LackMergeinfoBelow-blocks, mergeinfo_through}
use Rattle.block_map.proofs.mergeinfo_below.may_be_in_blocks.Goals as goal

pub may_be_through-requires-clause-in_order : goal.may_be_through-requires-clause-in_order
may_be_through-requires-clause-in_order c =
    let before = c.blocks_before.ensures in
    AreBlocksFrom-front 0 (block_trees c.blocks_before.result.now) before.more (subst (AreBlocksFrom 0) before.split c.requires.in_order)

pub may_be_through-requires-clause-within : goal.may_be_through-requires-clause-within
may_be_through-requires-clause-within c =
    let all = block_trees c.args.blocks.now in
    let tick = c.args.location.tick in
    let within : tick ≤ end_of_blocks 0 all = omega (arith, c.requires.within) in
    omega (arith, end-front 0 tick c.args.location.path all (block_trees c.blocks_before.result.now) c.requires.in_order c.blocks_before.ensures within)

pub returns : goal.returns
returns c =
    let all = block_trees c.args.blocks.now in
    let front = block_trees c.blocks_before.result.now in
    let location = c.args.location in
    IfOk-weaker c.may_be_through.result (λ may. IsFalse may → (name : NameId) (rest : List NameId) → mergeinfo_through front (Some location) (name ∷ rest) ≡ None)
    (λ may. IsFalse may → LackMergeinfoBelow (λ path. mergeinfo_of (resolved 0 (look same_name 0 (block_records all) location.tick path))) location.path)
    (λ may lacks is_false. LackMergeinfoBelow-blocks all front location c.requires.in_order c.blocks_before.ensures c.requires.within (lacks is_false))
    c.may_be_through.ensures
