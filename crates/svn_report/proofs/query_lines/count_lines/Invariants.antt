use Rattle.svn_report.proofs.Common.{◌≡◌, ◌+◌, ◌≤◌, length, query_lines}
use Rattle.svn_report.proofs.query_lines.count_lines.Given as goal

abbrev pub invariant-lines : goal.invariant-lines
invariant-lines l = record {
  counted : l.count + length (query_lines l.rest) ≡ length (query_lines l.queries);
  within : l.count + length l.rest ≤ length l.queries;
}

abbrev pub decreases-lines : goal.decreases-lines
decreases-lines l = length l.rest
