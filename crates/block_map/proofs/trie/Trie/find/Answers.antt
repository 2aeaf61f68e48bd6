use Rattle.block_map.proofs.Common.{take, length-take-le}
use Rattle.block_map.proofs.Positions.{IsPositionOf-step}
use Rattle.block_map.proofs.trie.Trie.find.Goals as goal

pub loop-depth-preserved : goal.loop-depth-preserved
loop-depth-preserved c =
    let path = take c.loop-depth.depth c.args.path.now in
    let depth = length-take-le c.loop-depth.depth c.args.path.now c.loop-depth.auto.depth-end in
    IsPositionOf-step c.args.self.now c.args.root c.args.path.now c.loop-depth.depth (record { 0 = 0 }) c.loop-depth.position c.step-position.result
    c.loop-depth-test.true c.loop-depth.invariant c.step-position.ensures.node
    (c.step-position.ensures.base path depth c.loop-depth.invariant.base) (c.step-position.ensures.is path depth c.loop-depth.invariant.base)
