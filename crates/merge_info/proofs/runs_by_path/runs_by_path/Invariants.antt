use Rattle.merge_info.proofs.Common.{map, line_view, AreRunsByPath}
use Rattle.merge_info.proofs.runs_by_path.runs_by_path.Given as goal

abbrev pub invariant-loop-line : goal.invariant-loop-line
invariant-loop-line l = AreRunsByPath (map line_view l.yielded) l.by_path
