use Rattle.block_map.proofs.Common.{◌≡◌, ap, sym, subst, ◌∙◌, IfOk-weaker, same_name, AreBlocksFrom, block_records, block_trees, at, look, resolved, look_through, looked_view}
use Rattle.block_map.proofs.BlocksOfMaps.{AreBlocksFrom-front, end-front, look-before}
use Rattle.block_map.proofs.LooksThrough.{look_from-within}
use Rattle.block_map.proofs.map.look_in_blocks.Goals as goal

pub look_through-requires-clause-in_order : goal.look_through-requires-clause-in_order
look_through-requires-clause-in_order c =
    let before = c.blocks_before.ensures in
    AreBlocksFrom-front c.args.lo (block_trees c.blocks_before.result.now) before.more (subst (AreBlocksFrom c.args.lo) before.split c.requires.in_order)

pub look_through-requires-clause-within : goal.look_through-requires-clause-within
look_through-requires-clause-within c =
    end-front c.args.lo c.args.tick c.args.path.now (block_trees c.args.blocks.now) (block_trees c.blocks_before.result.now) c.requires.in_order c.blocks_before.ensures c.requires.within

pub returns : goal.returns
returns c =
    let lo = c.args.lo in
    let tick = c.args.tick in
    let path = c.args.path.now in
    let all = block_trees c.args.blocks.now in
    let front = block_trees c.blocks_before.result.now in
    let before = c.blocks_before.ensures in
    let through = look_through same_name lo (block_records front) (at path tick) in
    let whole = look same_name lo (block_records all) tick path in
    IfOk-weaker c.look_through.result (λ looked. resolved lo (looked_view path looked) ≡ resolved lo through) (λ looked. resolved lo (looked_view path looked) ≡ resolved lo whole)
    (λ looked is. is ∙ ap (resolved lo)
    (look_from-within same_name lo (block_records front) tick path (end-front lo tick path all front c.requires.in_order before c.requires.within)
    ∙ sym (look-before lo tick path all front c.requires.in_order before c.requires.within)))
    c.look_through.ensures
