use Rattle.live_history.proofs.Common.{◌≡◌, ◌≤◌, [], room, stream, AreTaken}
use Rattle.live_history.proofs.read_ahead.ReadAhead.read_line.Given as goal

abbrev pub invariant-reads : goal.invariant-reads
invariant-reads g l = record {
  taken : AreTaken (stream l.fn.self (g.C.Client.input l.fn.client)) (stream l.self (g.C.Client.input l.client)) [];
  room : room l.self ≤ room l.fn.self;
  unfailed : (g.C.Client.input l.client).failures ≡ (g.C.Client.input l.fn.client).failures;
  unended : (g.C.Client.input l.client).ends ≡ (g.C.Client.input l.fn.client).ends;
  output : g.C.Client.output l.client ≡ g.C.Client.output l.fn.client;
  first : g.C.Client.first l.client ≡ g.C.Client.first l.fn.client;
}

abbrev pub decreases-reads : goal.decreases-reads
decreases-reads g l = room l.self
