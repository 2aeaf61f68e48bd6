use Rattle.path_index.proofs.Common.{map, ap, subst, ◌∙◌, take_all, HaveSameNumbers}
use Rattle.path_index.proofs.ListsOfNodes.{items_in, AreAllRising-same, HaveSameNumbers-map}
use Rattle.path_index.proofs.numbers.Numbers.dup.Goals as goal

same : (c : goal.After-loop-list) → HaveSameNumbers c.self.inside.lists.items c.loop-list.lists.items
same c =
    let all = c.deref-list-items.result.now in
    subst (λ lists. HaveSameNumbers lists c.loop-list.lists.items) c.deref-list-items.ensures.value
    (HaveSameNumbers-map all c.loop-list.lists.items (c.loop-list.invariant ∙ ap (map items_in) (take_all c.loop-list.list-index all c.loop-list-test.false)))

pub invariant_of-result : goal.invariant_of-result
invariant_of-result c = AreAllRising-same c.self.inside.lists.items c.loop-list.lists.items (same c) c.self.invariant

pub returns : goal.returns
returns c = subst (λ lists. HaveSameNumbers lists c.loop-list.lists.items) c.self.view_is (same c)
