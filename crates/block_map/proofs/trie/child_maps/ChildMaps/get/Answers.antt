use Rattle.block_map.proofs.Common.{◌<◌, ◌/◌, Some, sym, ap, subst, ◌∙◌, cond-true, cond-false, eq-eqb, ne_eqb, child_in, ChildMapId}
use Rattle.block_map.proofs.ChildMapSteps.{child_in-None, child_in-Leaf, child_in-Branch, child_map_at-before}
use Rattle.block_map.proofs.trie.child_maps.ChildMaps.get.Goals as goal

pub returns-in-None : goal.returns-in-None
returns-in-None c =
    sym (child_in-None c.args.self.now c.loop-left.map c.loop-left.bits c.child_map.ensures.ordered (sym c.child_map.ensures.is ∙ c.in-None.is)) ∙ c.loop-left.invariant

pub returns-then-left-bits : goal.returns-then-left-bits
returns-then-left-bits c =
    let at = sym c.child_map.ensures.is ∙ c.in-Some-Leaf.is ∙ ap Some c.in-Some-Leaf.field-0-is in
    sym (cond-true _ _ _ (eq-eqb c.in-Some-Leaf.left c.loop-left.bits c.if-left-bits.true))
    ∙ sym (child_in-Leaf c.args.self.now c.loop-left.map c.loop-left.bits c.in-Some-Leaf.left c.in-Some-Leaf.node c.child_map.ensures.ordered at) ∙ c.loop-left.invariant

pub returns-else-left-bits : goal.returns-else-left-bits
returns-else-left-bits c =
    let at = sym c.child_map.ensures.is ∙ c.in-Some-Leaf.is ∙ ap Some c.in-Some-Leaf.field-0-is in
    sym (cond-false _ _ _ (ne_eqb c.in-Some-Leaf.left c.loop-left.bits c.if-left-bits.false))
    ∙ sym (child_in-Leaf c.args.self.now c.loop-left.map c.loop-left.bits c.in-Some-Leaf.left c.in-Some-Leaf.node c.child_map.ensures.ordered at) ∙ c.loop-left.invariant

pub loop-left-smaller : goal.loop-left-smaller
loop-left-smaller c =
    let at = sym c.child_map.ensures.is ∙ c.in-Some-Branch.is ∙ ap Some c.in-Some-Branch.field-0-is in
    subst (λ (map : ChildMapId). map.0 < c.loop-left.map.0) (sym c.by_bit-map.ensures)
    (child_map_at-before c.args.self.now c.loop-left.map.0 c.loop-left.bits c.in-Some-Branch.even c.in-Some-Branch.odd c.child_map.ensures.ordered at)

pub loop-left-preserved : goal.loop-left-preserved
loop-left-preserved c =
    let at = sym c.child_map.ensures.is ∙ c.in-Some-Branch.is ∙ ap Some c.in-Some-Branch.field-0-is in
    ap (λ map. child_in c.args.self.now map (c.loop-left.bits / 2)) c.by_bit-map.ensures
    ∙ sym (child_in-Branch c.args.self.now c.loop-left.map c.loop-left.bits c.in-Some-Branch.even c.in-Some-Branch.odd c.child_map.ensures.ordered at)
    ∙ c.loop-left.invariant
