use Rattle.std.proofs.Common.{◌≡◌, ◌-◌, ◌≤◌, length, take}
use Rattle.std.specs.Io.KnownBytes.{Appends}
use Rattle.devices.proofs.sending.send.Given as goal

abbrev pub invariant-loop-sent : goal.invariant-loop-sent
invariant-loop-sent g l = record {
  within : l.sent ≤ length l.bytes;
  gone : Appends (g.W.Push.state l.fn.output).gone (g.W.Push.state l.output).gone (take l.sent l.bytes);
  called : (g.W.Push.state l.fn.output).calls ≤ (g.W.Push.state l.output).calls;
  failures : (g.W.Push.state l.output).failures ≡ (g.W.Push.state l.fn.output).failures;
}

abbrev pub decreases-loop-sent : goal.decreases-loop-sent
decreases-loop-sent g l = length l.bytes - l.sent
