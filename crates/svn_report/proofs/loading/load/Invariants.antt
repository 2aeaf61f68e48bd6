use Rattle.svn_report.proofs.Common.{◌≡◌, ◌+◌, ◌<◌, vec_len}
use Rattle.std.specs.Io.KnownBytes.{Consumes}
use Rattle.svn_report.proofs.loading.load.Given as goal

abbrev pub invariant-loop : goal.invariant-loop
invariant-loop g l = record {
  taken : Consumes (g.P.Pull.state l.fn.input).left (g.P.Pull.state l.input).left l.bytes.items;
  calls : (g.P.Pull.state l.input).calls ≡ (g.P.Pull.state l.fn.input).calls + l.counter;
  failures : (g.P.Pull.state l.input).failures ≡ (g.P.Pull.state l.fn.input).failures;
  ends : (g.P.Pull.state l.input).ends ≡ (g.P.Pull.state l.fn.input).ends;
  room : 0 < vec_len l.piece;
}
