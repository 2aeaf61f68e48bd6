use Rattle.std.proofs.Common.{◌≡◌, map, take}
use Rattle.branch_answer.proofs.OpenChildren.{path_of_child}
use Rattle.branch_answer.proofs.explicit.open_children.Given as goal

abbrev pub invariant-loop-child : goal.invariant-loop-child
invariant-loop-child l = l.below.items ≡ map (path_of_child l.path) (take l.child-index l.children)
