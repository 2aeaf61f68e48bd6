use Rattle.block_map.proofs.Common.{◌∷◌, [], Some, sym, ap, subst, unwrap_or, ◌∙◌, IfOk-weaker, IsNodeOf, PutsNode, child_of, untouched, Node}
use Rattle.block_map.proofs.CopiedNodes.{IsNodeOf-untouched}
use Rattle.block_map.proofs.GrownTries.{IsNodeOf-grown}
use Rattle.block_map.proofs.NodesPut.{PutsNode-path}
use Rattle.block_map.proofs.trie.Trie.+put.Goals as goal

pub with_child-requires-clause-node : goal.with_child-requires-clause-node
with_child-requires-clause-node t c =
    let old = c.args.self.now in
    let mid = c.put.new.self in
    subst (IsNodeOf mid) (sym c.or_untouched-above.ensures)
    (IsNodeOf-grown old mid c.child-child.ensures.trie c.in_ok-below.ensures.grown (unwrap_or c.args.before untouched) (IsNodeOf-untouched old c.args.before c.requires.before))

pub returns-clause-exact : goal.returns-clause-exact
returns-clause-exact t c =
    let old = c.args.self.now in
    let mid = c.put.new.self in
    let new = c.with_child.new.self in
    let above = c.or_untouched-above.result in
    let name = c.in-Some.name.now in
    let rest = c.in-Some.rest.now in
    let put = c.args.node in
    let below = c.in_ok-below.below in
    let above_is = c.or_untouched-above.ensures in
    let child_is = c.child-child.ensures.is ∙ ap (λ (node : Node). child_of old node name) above_is in
    let first = subst (λ child. PutsNode old mid child rest put below) child_is c.in_ok-below.ensures.exact in
    IfOk-weaker c.with_child.result (PutsNode mid new (Some above) (name ∷ []) below) (PutsNode old new c.args.before c.args.path.now put)
    (λ after second. subst (λ path. PutsNode old new c.args.before path put after) (sym c.in-Some.ensures.cases.0)
    (PutsNode-path old mid new c.args.before name rest put below after c.child-child.ensures.trie c.in_ok-below.ensures.grown c.requires.before first
    (subst (λ (node : Node). PutsNode mid new (Some node) (name ∷ []) below after) above_is second)))
    c.with_child.ensures.exact
