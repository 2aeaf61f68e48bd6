use Rattle.path_index.proofs.Common.{◌≡◌, ◌+◌, ◌≤◌, None, length, take, sym, ap, ◌∙◌, arith, take_all, node_of}
use Rattle.path_index.proofs.NodesOfPaths.{node_of-take_more, node_of-take_none}
use Rattle.path_index.proofs.nodes.Nodes.find.Goals as goal

pub returns-in-None : goal.returns-in-None
returns-in-None c =
    let nodes = c.args.self.now in
    let parts = c.parts-name-items.result.now in
    let n = c.loop-name.name-index in
    let none : node_of nodes (take (n + 1) parts) ≡ None =
    node_of-take_more nodes parts n (record { 0 = 0 }) c.loop-name.node c.loop-name-test.true c.loop-name.invariant ∙ sym c.child.ensures ∙ c.in-None.is in
    let within : n + 1 ≤ length parts = omega (arith, c.loop-name-test.true) in
    sym (node_of-take_none nodes parts (n + 1) (length parts) within none)
    ∙ ap (node_of nodes) (take_all (length parts) parts (omega arith) ∙ c.parts-name-items.ensures)

pub loop-name-preserved : goal.loop-name-preserved
loop-name-preserved c =
    node_of-take_more c.args.self.now c.parts-name-items.result.now c.loop-name.name-index (record { 0 = 0 }) c.loop-name.node c.loop-name-test.true c.loop-name.invariant
    ∙ sym c.child.ensures ∙ c.in-Some.is
