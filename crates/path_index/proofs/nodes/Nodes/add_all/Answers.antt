use Rattle.path_index.proofs.Common.{◌≡◌, ◌<◌, ◌≤◌, ℕ, List, Some, get_or, length, slice_get, sym, subst, ◌∙◌, arith, get_or_default, slice_get-get_or, child_of, AreNodesOf, HaveParentsBefore, Child}
use Rattle.path_index.proofs.EntriesOfPaths.{ExtendsNodes-none, ExtendsNodes-again}
use Rattle.path_index.proofs.MappedNodes.{AreMapped-root, AreMapped-next, AreNodesOf-mapped}
use Rattle.path_index.proofs.nodes.Nodes.add_all.Goals as goal

abbrev some_child : Child
some_child = record { parent = 0; name = record { 0 = 0 } }

parent_before : (all : List Child) (k : ℕ) → HaveParentsBefore all → k < length all → (get_or all k some_child).parent ≤ k
parent_before all k ordered within = ordered k (get_or all k some_child) (slice_get-get_or all k some_child within)

pub loop-child-init : goal.loop-child-init
loop-child-init c = record {
  mapped = rw (c.in_ok-push.ensures.items, c.in_ok-nodes.ensures.items) AreMapped-root;
  grown = ExtendsNodes-none;
}

pub index-requires : goal.index-requires
index-requires c =
    let all = c.as_slice-child-items.result.now in
    let ordered : HaveParentsBefore all = rw c.as_slice-child-items.ensures.keys c.later.invariant.1 in
    omega (arith, parent_before all c.loop-child.child-index ordered c.loop-child-test.true, c.loop-child.invariant.mapped.all)

pub add-requires : goal.add-requires
add-requires c =
    let all = c.as_slice-child-items.result.now in
    let nodes = c.loop-child.nodes.items in
    let ordered : HaveParentsBefore all = rw c.as_slice-child-items.ensures.keys c.later.invariant.1 in
    let parent = (get_or all c.loop-child.child-index some_child).parent in
    let low : parent < length nodes = omega (arith, parent_before all c.loop-child.child-index ordered c.loop-child-test.true, c.loop-child.invariant.mapped.all) in
    rw c.index.ensures (c.loop-child.invariant.mapped.within parent c.index.result.now low)

pub loop-child-preserved : goal.loop-child-preserved
loop-child-preserved c =
    let all = c.as_slice-child-items.result.now in
    let k = c.loop-child.child-index in
    let child = get_or all k some_child in
    let nodes = c.loop-child.nodes.items in
    let ordered : HaveParentsBefore all = rw c.as_slice-child-items.ensures.keys c.later.invariant.1 in
    let at : slice_get all k ≡ Some child = slice_get-get_or all k some_child c.loop-child-test.true in
    let low : child.parent < length nodes = omega (arith, parent_before all k ordered c.loop-child-test.true, c.loop-child.invariant.mapped.all) in
    let parent : c.index.result.now ≡ get_or nodes child.parent 0 = c.index.ensures ∙ get_or_default nodes child.parent c.index.result.now 0 low in
    let added : child_of c.add.new.self (get_or nodes child.parent 0) child.name ≡ Some c.in_ok-node.node = rw parent at c.in_ok-node.ensures.node in
    record {
      mapped = rw c.in_ok-push-2.ensures.items (AreMapped-next c.loop-child.invariant.mapped ordered at c.in_ok-node.ensures.grown added);
      grown = ExtendsNodes-again c.loop-child.invariant.grown c.in_ok-node.ensures.grown;
    }

pub returns-clause-nodes : goal.returns-clause-nodes
returns-clause-nodes c =
    subst (λ children. AreNodesOf c.args.later children c.loop-child.nodes.items) (sym (c.shrink_to_fit.ensures.keys ∙ c.self-2.view_is))
    (subst (λ later. AreNodesOf later c.loop-child.self c.loop-child.nodes.items) (c.as_slice-child-items.ensures.keys ∙ c.later.view_is)
    (AreNodesOf-mapped (omega (arith, c.loop-child-test.false, c.loop-child.auto.child-index-end)) c.loop-child.invariant.mapped))
