use Rattle.block_map.proofs.TreesLooks.{IsRootAt-at, IsRootAt-within, ShowsTick-node}
use Rattle.block_map.proofs.trees.Trees.root.Goals as goal

pub node-requires : goal.node-requires
node-requires c = IsRootAt-within c.args.self.now c.args.tick c.index.result.now (IsRootAt-at c.args.self.now c.args.tick c.index.result.now c.requires.trees c.requires.after c.requires.within c.index.ensures)

pub returns-clause-shows : goal.returns-clause-shows
returns-clause-shows c =
    ShowsTick-node c.args.self.now c.args.tick c.index.result.now c.node.result
    (IsRootAt-at c.args.self.now c.args.tick c.index.result.now c.requires.trees c.requires.after c.requires.within c.index.ensures) c.node.ensures.is
