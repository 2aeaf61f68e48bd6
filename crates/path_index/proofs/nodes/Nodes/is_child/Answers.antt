use Rattle.path_index.proofs.Common.{◌≡◌, Some, suc, slice_get, length, sym, ap, subst, ◌∙◌, arith, ltb-true, slice_get-get_or, child_of, Child}
use Rattle.path_index.proofs.ChildrenDistinct.{child_of-distinct, same_child-at}
use Rattle.path_index.proofs.NodesOfPaths.{same_child-is}
use Rattle.path_index.proofs.nodes.Nodes.is_child.Goals as goal

pub returns-in-Some-get : goal.returns-in-Some-get
returns-in-Some-get c =
    let keys = c.self.inside.children.keys in
    let child = c.in-Some-get.child.now in
    let wanted : Child = record { parent = c.args.parent; name = c.args.name } in
    let index = c.in-Some.index in
    let found = c.in-Some-get.ensures.lookup in
    let at : slice_get keys index ≡ Some child =
    subst (λ all. slice_get all index ≡ Some child) c.as_slice.ensures.keys
    (slice_get-get_or c.as_slice.result.now index child (ltb-true index (length c.as_slice.result.now) (sym found.0)) ∙ ap Some (sym found.1)) in
    let node : suc index ≡ c.args.node = omega (arith, c.in-Some.ensures) in
    let same_keys : keys ≡ c.args.self.now = c.self.view_is in (
      (λ same.
          let (parent, name) = same_child-is child wanted (sym c.eq.ensures ∙ same) in
          subst (λ children. child_of children c.args.parent c.args.name ≡ Some c.args.node) same_keys
          ((λ i. child_of keys (sym parent i) (sym name i))
          ∙ child_of-distinct keys index child c.as_slice.ensures.unique at ∙ ap Some node)),
      (λ is.
          let found : child_of keys wanted.parent wanted.name ≡ Some (suc index) =
          ap (λ children. child_of children wanted.parent wanted.name) same_keys ∙ is ∙ ap Some (sym node) in
          c.eq.ensures ∙ same_child-at keys index child wanted at found),
    )
