use Rattle.live_history.proofs.Common.{◌≡◌, ◌≤◌, IsFalse, IsTrue, history_in_bytes, room, stream, AreRepliedTo, IsLawfulDump, TalkState, most_answered}
use Rattle.live_history.proofs.replies.reply_up_to_piece.Given as goal

abbrev pub invariant-turns : goal.invariant-turns
invariant-turns g l = record {
  replied : (state : TalkState) → IsLawfulDump state.dump (history_in_bytes l.fn.repo) → state.answered ≡ l.fn.answered
      → AreRepliedTo state (stream l.fn.ahead (g.C.Client.input l.fn.client)) (g.C.Client.output l.fn.client).gone (stream l.ahead (g.C.Client.input l.client)) (g.C.Client.output l.client) l.answered;
  flushed : IsTrue (g.C.Client.output l.fn.client).is_flushed → IsTrue (g.C.Client.output l.client).is_flushed;
  sound : IsFalse (g.C.Client.output l.fn.client).has_failed → IsFalse (g.C.Client.output l.client).has_failed;
  few : l.answered ≤ most_answered;
  less : room l.ahead ≤ room l.fn.ahead;
  unfailed : (g.C.Client.input l.client).failures ≡ (g.C.Client.input l.fn.client).failures;
  unended : (g.C.Client.input l.client).ends ≡ (g.C.Client.input l.fn.client).ends;
  sent_all : (g.C.Client.output l.client).failures ≡ (g.C.Client.output l.fn.client).failures;
  first : g.C.Client.first l.client ≡ g.C.Client.first l.fn.client;
}

abbrev pub decreases-turns : goal.decreases-turns
decreases-turns g l = room l.ahead
