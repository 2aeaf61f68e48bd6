use Rattle.merge_info.proofs.Common.{◌≡◌, map, take, inherited_lines, line_view, entry_view}
use Rattle.merge_info.proofs.merge_info.MergeInfo.inherited.Given as goal

abbrev pub invariant-loop-entry : goal.invariant-loop-entry
invariant-loop-entry l =
    map line_view l.lines.items ≡ inherited_lines l.rest (map entry_view (take l.entry-index l.entry-items))
