use Rattle.live_history.proofs.Common.{◌≡◌, ◌+◌, ◌^◌, ◌<◌, ◌≤◌, IsFalse, IsTrue, IsWholeHistory, IsHistoryOf, room, stream, TalkState, most_answered, IsAfterPiece}
use Rattle.live_history.proofs.talking.take_turns.Given as goal

abbrev pub invariant-pieces : goal.invariant-pieces
invariant-pieces g l = record {
  after : (state : TalkState) → IsHistoryOf state.dump l.fn.history → state.answered ≡ 0
      → IsAfterPiece state (stream l.fn.ahead (g.C.Client.input l.fn.client)) (g.C.Client.output l.fn.client).gone (stream l.ahead (g.C.Client.input l.client)) (g.C.Client.output l.client) l.answered l.history;
  whole : IsWholeHistory l.history.repo;
  few : l.history.paused.count + room l.ahead < 2 ^ 64;
  few_answered : l.answered ≤ most_answered;
  unfailed : (g.C.Client.input l.client).failures ≡ (g.C.Client.input l.fn.client).failures;
  unended : (g.C.Client.input l.client).ends ≡ (g.C.Client.input l.fn.client).ends;
  sent_all : (g.C.Client.output l.client).failures ≡ (g.C.Client.output l.fn.client).failures;
  first : g.C.Client.first l.client ≡ g.C.Client.first l.fn.client;
  flushed : IsTrue (g.C.Client.output l.fn.client).is_flushed → IsTrue (g.C.Client.output l.client).is_flushed;
  sound : IsFalse (g.C.Client.output l.fn.client).has_failed → IsFalse (g.C.Client.output l.client).has_failed;
}

abbrev pub decreases-pieces : goal.decreases-pieces
decreases-pieces g l = room l.ahead
