use Rattle.block_map.proofs.Common.{Some, sym, ap, ◌∙◌, IfOk-weaker, HasOne, HasSides, HasTwo, SetsChild}
use Rattle.block_map.proofs.ChildMapLookups.{node-within, SetsChild-None, SetsChild-same, SetsChild-other, SetsChild-branch}
use Rattle.block_map.proofs.trie.child_maps.ChildMaps.+set_bits.Goals as goal

pub returns-in-None-clause-exact : goal.returns-in-None-clause-exact
returns-in-None-clause-exact t c =
    let at = sym c.child_map.ensures.is ∙ c.in-None.is in
    let old = c.args.self.now in
    let new = c.push_leaf.new.self in
    IfOk-weaker c.push_leaf.result (HasOne new c.args.bits c.args.node) (SetsChild old new c.args.map c.args.bits c.args.node)
    (λ after one. SetsChild-None old new c.args.map c.args.bits c.args.node after c.child_map.ensures.ordered at one)
    c.push_leaf.ensures.exact

pub returns-then-left-bits-clause-exact : goal.returns-then-left-bits-clause-exact
returns-then-left-bits-clause-exact t c =
    let push = c.push_leaf-then-left-bits in
    let leaf = c.in-Some-Leaf in
    let at = sym c.child_map.ensures.is ∙ leaf.is ∙ ap Some leaf.field-0-is in
    let old = c.args.self.now in
    let new = push.new.self in
    IfOk-weaker push.result (HasOne new c.args.bits c.args.node) (SetsChild old new c.args.map c.args.bits c.args.node)
    (λ after one.
    SetsChild-same old new c.args.map leaf.left c.args.bits leaf.other c.args.node after c.child_map.ensures.ordered at c.if-left-bits.true one)
    push.ensures.exact

pub returns-else-left-bits-clause-exact : goal.returns-else-left-bits-clause-exact
returns-else-left-bits-clause-exact t c =
    let leaf = c.in-Some-Leaf in
    let at = sym c.child_map.ensures.is ∙ leaf.is ∙ ap Some leaf.field-0-is in
    let old = c.args.self.now in
    let new = c.split.new.self in
    IfOk-weaker c.split.result (HasTwo new c.args.bits c.args.node leaf.left leaf.other) (SetsChild old new c.args.map c.args.bits c.args.node)
    (λ after two. SetsChild-other old new c.args.map leaf.left c.args.bits leaf.other c.args.node after c.child_map.ensures.ordered at two)
    c.split.ensures.exact

pub returns-in_ok-same-in-Some-Branch-clause-exact : goal.returns-in_ok-same-in-Some-Branch-clause-exact
returns-in_ok-same-in-Some-Branch-clause-exact t c =
    let branch = c.in-Some-Branch in
    let set = c.in_ok-same-in-Some-Branch in
    let at = sym c.child_map.ensures.is ∙ branch.is ∙ ap Some branch.field-0-is in
    let old = c.args.self.now in
    let mid = c.set_bits.new.self in
    let new = c.push_sides.new.self in
    let near = c.by_bit.result in
    let far = c.by_bit-other.result in
    IfOk-weaker c.push_sides.result (HasSides mid new c.args.bits set.same far) (SetsChild old new c.args.map c.args.bits c.args.node)
    (λ after sides.
    SetsChild-branch old mid new c.args.map c.args.bits branch.even branch.odd c.args.node near far set.same after c.child_map.ensures.ordered at
    c.by_bit.ensures c.by_bit-other.ensures set.ensures.more set.ensures.exact sides)
    c.push_sides.ensures.exact

pub returns-in_ok-same-in-Some-Branch-clause-nodes : goal.returns-in_ok-same-in-Some-Branch-clause-nodes
returns-in_ok-same-in-Some-Branch-clause-nodes t c count below within =
    c.push_sides.ensures.nodes count (c.in_ok-same-in-Some-Branch.ensures.nodes count below within)

pub returns-else-left-bits-clause-nodes : goal.returns-else-left-bits-clause-nodes
returns-else-left-bits-clause-nodes t c count below within =
    let leaf = c.in-Some-Leaf in
    let at = sym c.child_map.ensures.is ∙ leaf.is ∙ ap Some leaf.field-0-is in
    c.split.ensures.nodes count below within (node-within count c.args.self.now c.args.map.0 leaf.left leaf.other below at)
