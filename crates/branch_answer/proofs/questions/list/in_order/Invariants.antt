use Rattle.std.proofs.Common.{◌≡◌, take}
use Rattle.branch_answer.specs.KeptChildren.{children_in_bytes, entries_in_bytes}
use Rattle.branch_answer.proofs.questions.list.in_order.Given as goal

abbrev pub invariant-loop-child : goal.invariant-loop-child
invariant-loop-child l =
    entries_in_bytes l.entries.items ≡ children_in_bytes l.names (take l.child-index l.children)
