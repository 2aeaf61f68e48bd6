use Rattle.merge_info.proofs.Common.{length, map, fields_left, IsLine, line_of, line_view, lines_of}
use Rattle.merge_info.proofs.Collected.{AreCollected}
use Rattle.merge_info.proofs.lines.read_lines.Given as goal

abbrev pub invariant-loop-left : goal.invariant-loop-left
invariant-loop-left l = AreCollected line_of IsLine (lines_of l.fn.text) (map line_view l.lines.items) (fields_left 10 l.left)

abbrev pub decreases-loop-left : goal.decreases-loop-left
decreases-loop-left l = length (fields_left 10 l.left)
