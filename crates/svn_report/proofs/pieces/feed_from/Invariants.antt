use Rattle.svn_report.proofs.Common.{◌≡◌, ◌+◌, ◌*◌, ◌≤◌, None, vec_len}
use Rattle.svn_report.specs.ReportFrom.{most_bytes}
use Rattle.svn_report.proofs.Fronts.{IsFrontRead}
use Rattle.svn_report.proofs.pieces.feed_from.Given as goal

abbrev pub invariant-loop : goal.invariant-loop
invariant-loop g l = record {
  front : IsFrontRead (g.P.Pull.state l.fn.input) (g.P.Pull.state l.input) l.feed;
  calls : (g.P.Pull.state l.input).calls ≡ (g.P.Pull.state l.fn.input).calls + l.counter;
  failures : (g.P.Pull.state l.input).failures ≡ (g.P.Pull.state l.fn.input).failures;
  ends : (g.P.Pull.state l.input).ends ≡ (g.P.Pull.state l.fn.input).ends;
  count : l.feed.count ≤ l.counter * most_bytes;
  going : l.feed.error ≡ None;
  room : vec_len l.piece ≡ most_bytes;
}
