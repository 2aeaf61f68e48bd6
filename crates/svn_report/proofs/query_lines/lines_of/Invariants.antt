use Rattle.svn_report.proofs.Common.{◌≡◌, ◌++◌, length, lent_lines, query_lines}
use Rattle.svn_report.proofs.query_lines.lines_of.Given as goal

abbrev pub invariant-lines : goal.invariant-lines
invariant-lines l = lent_lines l.lines.items ++ query_lines l.rest ≡ query_lines l.queries

abbrev pub decreases-lines : goal.decreases-lines
decreases-lines l = length l.rest
