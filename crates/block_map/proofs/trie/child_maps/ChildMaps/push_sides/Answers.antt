use Rattle.block_map.proofs.Common.{◌≡◌, ◌+◌, ◌%◌, ◌==◌, if◌then◌else◌, ◌++◌, ◌∷◌, [], length, ap, ◌∙◌, HasSides, HaveNodesBelow, Branch}
use Rattle.block_map.proofs.ChildMapLookups.{Extends-push, HasSides-push, HaveNodesBelow-branch, push-cases}
use Rattle.block_map.proofs.Results.{IfOk-both}
use Rattle.block_map.proofs.trie.child_maps.ChildMaps.push_sides.Goals as goal

pub returns-clause-more : goal.returns-clause-more
returns-clause-more c =
    Extends-push c.push.result c.args.self.now c.push.new.self (Branch c.by_bit-even.result c.by_bit-odd.result)
    c.push.ensures.added c.push.ensures.failed

pub returns-clause-exact : goal.returns-clause-exact
returns-clause-exact c =
    let old = c.args.self.now in
    IfOk-both c.push.result (λ id. id.0 ≡ length old + 1) (λ _. c.push.new.self ≡ old ++ Branch c.by_bit-even.result c.by_bit-odd.result ∷ [])
    (HasSides old c.push.new.self c.args.bits c.args.same c.args.other)
    (λ id number added.
    HasSides-push old c.push.new.self c.args.bits c.args.same c.args.other id c.push.ensures.ordered c.requires.same c.requires.other number
    (added ∙ ap (λ odd. old ++ Branch c.by_bit-even.result odd ∷ []) c.by_bit-odd.ensures
    ∙ ap (λ even. old ++ Branch even (if c.args.bits % 2 == 0 then c.args.other else c.args.same) ∷ []) c.by_bit-even.ensures))
    c.push.ensures.id c.push.ensures.added

pub returns-clause-nodes : goal.returns-clause-nodes
returns-clause-nodes c count below =
    push-cases c.push.result c.args.self.now c.push.new.self (Branch c.by_bit-even.result c.by_bit-odd.result) (HaveNodesBelow count)
    c.push.ensures.added c.push.ensures.failed (HaveNodesBelow-branch count c.args.self.now c.by_bit-even.result c.by_bit-odd.result below) below
