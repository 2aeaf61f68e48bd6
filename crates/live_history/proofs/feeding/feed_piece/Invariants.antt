use Rattle.live_history.proofs.Common.{◌≡◌, ◌+◌, ◌-◌, ◌≤◌, length, most_bytes, IsFed, room, stream}
use Rattle.live_history.proofs.feeding.feed_piece.Given as goal

abbrev pub invariant-bytes : goal.invariant-bytes
invariant-bytes g l = record {
  fed : IsFed l.fn.feed (l.fn.size - l.left) (stream l.fn.ahead (g.C.Client.input l.fn.client)) (stream l.ahead (g.C.Client.input l.client)) l.feed;
  within : l.left ≤ l.fn.size;
  few : l.feed.count + room l.ahead ≤ l.fn.feed.count + room l.fn.ahead;
  less : room l.ahead ≤ room l.fn.ahead;
  near : length l.ahead.unread ≤ most_bytes;
  unfailed : (g.C.Client.input l.client).failures ≡ (g.C.Client.input l.fn.client).failures;
  unended : (g.C.Client.input l.client).ends ≡ (g.C.Client.input l.fn.client).ends;
  output : g.C.Client.output l.client ≡ g.C.Client.output l.fn.client;
  first : g.C.Client.first l.client ≡ g.C.Client.first l.fn.client;
}

abbrev pub decreases-bytes : goal.decreases-bytes
decreases-bytes g l = l.left
