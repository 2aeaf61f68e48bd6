use Rattle.svn_report.proofs.Common.{◌<◌, ◌≤◌, ◌-◌, length, partial_text, most_queries}
use Rattle.svn_report.proofs.Batches.{IsAnswered}
use Rattle.svn_report.proofs.answering.answer_batches.Given as goal

abbrev pub invariant-batches : goal.invariant-batches
invariant-batches g l = record {
  answered : IsAnswered l.repo l.lines l.done (partial_text l.partial);
  within : l.done ≤ length l.lines;
  some : 0 < l.size;
  few : l.size ≤ most_queries;
}

abbrev pub decreases-batches : goal.decreases-batches
decreases-batches g l = length l.lines - l.done
