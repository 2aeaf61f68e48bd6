-- Turns that are replied to after others, and why a talk ends after them.
use Rattle.live_history.proofs.Common.{◌≡◌, ℕ, ◌≤◌, List, [], ◌++◌, Option, inl, inr, sym, ap, subst, ◌∙◌, append_assoc, IsFalse, IsTrue, Appends-nil, Appends-trans, flat_map-append, All-append, All-nil, PullState, PushState, AreReplied, AreTaken, IsReadUpTo, Stream, TalkState, after_turns, AreAllReplied, IsEndEarly, IsEndReason, IsOutputKept, IsPieceReason, most_answered, IsTurn, Turn, turn_bytes, turns_bytes, TalkError, Cut, Run, TooMany, Unsent}
use Rattle.live_history.proofs.Streams.{AreLast-more, AreTaken-more, AreTaken-none, HasEnded-more, IsCutLine-more, IsReadUpTo-more, IsUnread-more, IsUnreadLine-more}
use Rattle.live_history.proofs.Talks.{IsTalk-append, IsTalk-none, after_turns-append}

-- the same reason, seen from before some bytes that were taken
module _ {old mid : Stream} {taken : List ℕ} (first : AreTaken old mid taken) {after : PullState} {error : TalkError} where
  pub IsPieceReason-more : (dump : List ℕ) (size : ℕ) (rest : List ℕ) → IsPieceReason dump size mid after rest error → IsPieceReason dump size old after rest error
  IsPieceReason-more dump size rest (inl refused) = inl refused
  IsPieceReason-more dump size rest (inr (inl faulty)) = inr (inl faulty)
  IsPieceReason-more dump size rest (inr (inr (inl cut))) = inr (inr (inl (record { is = cut.is; ended = HasEnded-more first cut.ended; part = cut.part })))
  IsPieceReason-more dump size rest (inr (inr (inr (inl lost)))) = inr (inr (inr (inl (record { is = lost.is; unread = IsUnread-more first lost.unread; part = lost.part }))))
  IsPieceReason-more dump size rest (inr (inr (inr (inr memory)))) = inr (inr (inr (inr memory)))

  pub IsEndReason-more : (state : TalkState) (sent : PushState) (rest part : List ℕ) → IsEndReason state mid after sent rest part error → IsEndReason state old after sent rest part error
  IsEndReason-more state sent rest part (inl (none, inl cut)) = inl (none, inl (IsCutLine-more first cut))
  IsEndReason-more state sent rest part (inl (none, inr (inl piece))) = inl (
    none,
    inr (inl (record {
      digits = piece.digits;
      size = piece.size;
      number = piece.number;
      bytes = piece.bytes;
      whole = piece.whole;
      why = IsPieceReason-more state.dump piece.size piece.bytes piece.why;
    })),
  )
  IsEndReason-more state sent rest part (inl (none, inr (inr (inl many)))) = inl (none, inr (inr (inl many)))
  IsEndReason-more state sent rest part (inl (none, inr (inr (inr (inl lost))))) = inl (none, inr (inr (inr (inl (IsUnreadLine-more first lost)))))
  IsEndReason-more state sent rest part (inl (none, inr (inr (inr (inr memory))))) = inl (none, inr (inr (inr (inr memory))))
  IsEndReason-more state sent rest part (inr unsent) = inr unsent

-- an output that was flushed and has not failed
pub IsOutputKept-sound : (sent : PushState) (error : TalkError) → IsTrue sent.is_flushed → IsFalse sent.has_failed → IsOutputKept sent error
IsOutputKept-sound sent (Run reason) flushed sound = (flushed, sound)
IsOutputKept-sound sent TooMany flushed sound = (flushed, sound)
IsOutputKept-sound sent Cut flushed sound = (flushed, sound)
IsOutputKept-sound sent (Unsent cause) flushed sound = tt

-- no turn was replied to yet
pub AreReplied-none : (state : TalkState) (old : Stream) (sent : PushState) → AreReplied state old sent.gone old sent []
AreReplied-none state old sent = record {
  are = All-nil IsTurn;
  taken = AreTaken-none old;
  said = [];
  talk = IsTalk-none state;
  sent_is = Appends-nil sent.gone;
}

-- a talk ends before any turn is replied to
pub IsEndEarly-now : (state : TalkState) (old : Stream) (gone : Option (List ℕ)) (after : PullState) (sent : PushState) (error : TalkError) (rest : List ℕ)
    → state.answered ≤ most_answered → sent.gone ≡ gone → IsReadUpTo old after rest → IsEndReason state old after sent rest [] error → IsEndEarly state old gone after sent error
IsEndEarly-now state old gone after sent error rest few unsent read why = record {
  turns = [];
  rest = rest;
  are = All-nil IsTurn;
  few = few;
  read = read;
  said = [];
  part = [];
  talk = IsTalk-none state;
  sent_is = rw unsent (Appends-nil gone);
  why = why;
}

module _ {state : TalkState} {old mid : Stream} {gone : Option (List ℕ)} {between : PushState} {turns : List Turn} (first : AreReplied state old gone mid between turns) where
  bytes-more : (more : List Turn) → turns_bytes turns ++ turns_bytes more ≡ turns_bytes (turns ++ more)
  bytes-more more = sym (flat_map-append turn_bytes turns more)

  pub AreReplied-more : {new : Stream} {sent : PushState} {more : List Turn} → AreReplied (after_turns state turns) mid between.gone new sent more → AreReplied state old gone new sent (turns ++ more)
  AreReplied-more {new} {sent} {more} next = record {
    are = All-append IsTurn turns more first.are next.are;
    taken = subst (AreTaken old new) (bytes-more more) (AreTaken-more first.taken next.taken);
    said = first.said ++ next.said;
    talk = IsTalk-append state turns more first.said next.said first.talk next.talk;
    sent_is = Appends-trans gone between.gone sent.gone first.said next.said first.sent_is next.sent_is;
  }

  pub AreAllReplied-more : {after : PullState} {sent : PushState} → AreAllReplied (after_turns state turns) mid between.gone after sent → AreAllReplied state old gone after sent
  AreAllReplied-more {after} {sent} next = record {
    turns = turns ++ next.turns;
    are = All-append IsTurn turns next.turns first.are next.are;
    few = subst (λ later. later.answered ≤ most_answered) (sym (after_turns-append state turns next.turns)) next.few;
    last = rw (sym (bytes-more next.turns)) (AreLast-more first.taken next.last);
    said = first.said ++ next.said;
    talk = IsTalk-append state turns next.turns first.said next.said first.talk next.talk;
    sent_is = Appends-trans gone between.gone sent.gone first.said next.said first.sent_is next.sent_is;
  }

  pub IsEndEarly-more : {after : PullState} {sent : PushState} {error : TalkError} → IsEndEarly (after_turns state turns) mid between.gone after sent error → IsEndEarly state old gone after sent error
  IsEndEarly-more {after} {sent} {error} next = record {
    turns = turns ++ next.turns;
    rest = next.rest;
    are = All-append IsTurn turns next.turns first.are next.are;
    few = subst (λ later. later.answered ≤ most_answered) (sym (after_turns-append state turns next.turns)) next.few;
    read = subst (IsReadUpTo old after) (sym (append_assoc (turns_bytes turns) (turns_bytes next.turns) next.rest) ∙ ap (λ bytes. bytes ++ next.rest) (bytes-more next.turns)) (IsReadUpTo-more first.taken next.read);
    said = first.said ++ next.said;
    part = next.part;
    talk = IsTalk-append state turns next.turns first.said next.said first.talk next.talk;
    sent_is = rw (append_assoc first.said next.said next.part) (Appends-trans gone between.gone sent.gone first.said (next.said ++ next.part) first.sent_is next.sent_is);
    why = subst (λ later. IsEndReason later old after sent next.rest next.part error) (sym (after_turns-append state turns next.turns)) (IsEndReason-more first.taken (after_turns (after_turns state turns) next.turns) sent next.rest next.part next.why);
  }
