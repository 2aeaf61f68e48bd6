use Rattle.merge_info.proofs.Common.{◌≡◌, ◌++◌, filter, length, is_not_empty, parts_of, parts_text, fields_left}
use Rattle.merge_info.proofs.source_path.printed_path.Given as goal

abbrev pub invariant-loop-left : goal.invariant-loop-left
invariant-loop-left l =
    parts_text (parts_of l.bytes) ≡ l.path.items ++ parts_text (filter is_not_empty (fields_left 47 l.left))

abbrev pub decreases-loop-left : goal.decreases-loop-left
decreases-loop-left l = length (fields_left 47 l.left)
