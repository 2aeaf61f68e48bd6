use Rattle.std.proofs.Common.{◌∙◌, ap, map, subst, sym}
use Rattle.std.proofs.lemmas.List.{take_all}
use Rattle.query_answer.specs.Standings.{AreChildrenIn}
use Rattle.branch_answer.proofs.OpenChildren.{AreOpen-children, path_of_child}
use Rattle.branch_answer.specs.ExplicitFound.{AreOpen}
use Rattle.branch_answer.proofs.explicit.open_children.Goals as goal

pub returns : goal.returns
returns c =
    let dump = c.args.repo.now in
    let path = c.args.path.now in
    let children = c.as_slice-children.result.now in
    let all = c.loop-child.invariant ∙ ap (map (path_of_child path)) (take_all c.loop-child.child-index children c.loop-child-test.false) in
    subst (AreOpen dump c.args.rev path) (sym all)
    (AreOpen-children dump c.args.rev path children (subst (AreChildrenIn dump path c.args.rev) (sym c.as_slice-children.ensures.value) c.in_ok-list.ensures))
