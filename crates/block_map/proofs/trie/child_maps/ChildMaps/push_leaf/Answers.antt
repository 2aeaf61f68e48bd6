use Rattle.block_map.proofs.Common.{◌≡◌, ◌+◌, ◌++◌, ◌∷◌, [], length, HasOne, HaveNodesBelow, Leaf}
use Rattle.block_map.proofs.ChildMapLookups.{Extends-push, HasOne-push, HaveNodesBelow-leaf, push-cases}
use Rattle.block_map.proofs.Results.{IfOk-both}
use Rattle.block_map.proofs.trie.child_maps.ChildMaps.push_leaf.Goals as goal

pub returns-clause-more : goal.returns-clause-more
returns-clause-more c =
    Extends-push c.push.result c.args.self.now c.push.new.self (Leaf c.args.bits c.args.node) c.push.ensures.added c.push.ensures.failed

pub returns-clause-exact : goal.returns-clause-exact
returns-clause-exact c =
    IfOk-both c.push.result (λ id. id.0 ≡ length c.args.self.now + 1) (λ _. c.push.new.self ≡ c.args.self.now ++ Leaf c.args.bits c.args.node ∷ [])
    (HasOne c.push.new.self c.args.bits c.args.node)
    (λ id number added. HasOne-push c.args.self.now c.push.new.self c.args.bits c.args.node id c.push.ensures.ordered number added)
    c.push.ensures.id c.push.ensures.added

pub returns-clause-nodes : goal.returns-clause-nodes
returns-clause-nodes c count below within =
    push-cases c.push.result c.args.self.now c.push.new.self (Leaf c.args.bits c.args.node) (HaveNodesBelow count)
    c.push.ensures.added c.push.ensures.failed (HaveNodesBelow-leaf count c.args.self.now c.args.bits c.args.node below within) below
