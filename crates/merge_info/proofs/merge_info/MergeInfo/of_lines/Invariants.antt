use Rattle.merge_info.proofs.Common.{map, line_view, entry_view}
use Rattle.merge_info.proofs.CanonicalEntries.{IsSoFar}
use Rattle.merge_info.proofs.RunsByPath.{line_in}
use Rattle.merge_info.proofs.merge_info.MergeInfo.of_lines.Given as goal

abbrev pub invariant-loop-path : goal.invariant-loop-path
invariant-loop-path l =
    IsSoFar (map line_view l.fn.lines.items) (map entry_view l.entries.items) (map line_in l.path-iterator)
