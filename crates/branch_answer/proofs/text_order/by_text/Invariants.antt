use Rattle.std.proofs.Common.{◌≡◌}
use Rattle.branch_answer.specs.TextOrder.{entries_by_text, paths_by_text, sorted_by_text}
use Rattle.branch_answer.proofs.text_order.by_text.Given as goal

abbrev pub invariant-loop-path : goal.invariant-loop-path
invariant-loop-path l = entries_by_text l.sorted.entries ≡ sorted_by_text (paths_by_text l.names l.yielded)
