use Rattle.merge_info.proofs.Common.{◌≡◌, map, take, entry_view}
use Rattle.merge_info.proofs.merge_info.MergeInfo.dup.Given as goal

abbrev pub invariant-loop-entry : goal.invariant-loop-entry
invariant-loop-entry l = map entry_view l.entries.items ≡ map entry_view (take l.entry-index l.entry-items)
