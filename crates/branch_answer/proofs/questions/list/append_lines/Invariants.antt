use Rattle.std.proofs.Common.{◌≡◌, ◌++◌, take}
use Rattle.branch_answer.specs.KeptChildren.{entries_in_bytes}
use Rattle.branch_answer.specs.Listing.{children_text}
use Rattle.branch_answer.proofs.questions.list.append_lines.Given as goal

abbrev pub invariant-loop-name : goal.invariant-loop-name
invariant-loop-name l = l.out.items ≡ l.fn.out.items ++ children_text (entries_in_bytes (take l.name-index l.entries))
