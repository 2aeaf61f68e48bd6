use Rattle.query_answer.proofs.Common.{◌≡◌, ◌++◌, map, take, flat_map, line_text, merged_line}
use Rattle.query_answer.proofs.verbs.merged.append_merged.Given as goal

abbrev pub invariant-loop-revision : goal.invariant-loop-revision
invariant-loop-revision l = l.out.items ≡ l.initial.out.items ++ flat_map line_text (map merged_line (take l.revision-index l.revisions))
