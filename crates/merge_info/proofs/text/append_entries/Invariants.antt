use Rattle.merge_info.proofs.Common.{◌≡◌, ◌++◌, map, take, value_text, entry_view}
use Rattle.merge_info.proofs.text.append_entries.Given as goal

abbrev pub invariant-loop-entry : goal.invariant-loop-entry
invariant-loop-entry l = l.out.items ≡ l.fn.out.items ++ value_text (map entry_view (take l.entry-index l.entries))
