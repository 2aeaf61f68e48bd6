-- What is known of a client before it is read, as turns are taken.
use Rattle.live_history.proofs.Common.{◌≡◌, ℕ, ◌<◌, List, [], ◌++◌, None, Option, Some, inr, length, refl, sym, ap, subst, ◌∙◌, append_assoc, append-nil, IsTrue, Appends, Consumes, prepend_known, Appends-trans, Consumes-nil, Consumes-trans, prepend_known-nil, flat_map-append, All-append, All-nil, PullState, PushState, line_text, IsHistoryOf, AreReplied, AreRepliedTo, IsUpToPiece, Stream, IsLawfulDump, TalkState, ready_text, start_of, IsAfterPiece, IsTurn, Turn, piece_line, turn_bytes, turns_bytes, History}
use Rattle.svn_dump.specs.Record.{HistoryOfBytes}
use Rattle.live_history.specs.Client.{Ends, IsAllRepliedTo, IsRepliedUpTo}
use Rattle.live_history.specs.Waiting.{IsCaughtUp, IsInPiece, IsPieceNext, state_after}
use Rattle.live_history.proofs.ReadAheads.{Consumes-ahead}
use Rattle.live_history.proofs.Talks.{IsTalk-append, IsTalk-none, after_turns-append}

-- bytes that were taken are put back
Consumes-back : (old new : Option (List ℕ)) (taken : List ℕ) → Consumes old new taken → Consumes old (prepend_known taken new) []
Consumes-back None new taken is = tt
Consumes-back (Some bytes) None taken is = absurd is
Consumes-back (Some bytes) (Some rest) taken is = is

module _ {first : Ends} {output : PushState} {rest : Option (List ℕ)} where
  -- the same bytes are still to come
  pub IsRepliedUpTo-same : IsRepliedUpTo first output rest → (later : Option (List ℕ)) → Consumes rest later [] → IsRepliedUpTo first output later
  IsRepliedUpTo-same replied later is = record {
    dump = replied.dump;
    history = replied.history;
    is = replied.is;
    turns = replied.turns;
    are = replied.are;
    read = subst (Consumes first.input.left later) (append-nil (turns_bytes replied.turns)) (Consumes-trans first.input.left rest later (turns_bytes replied.turns) [] replied.read is);
    said = replied.said;
    talk = replied.talk;
    sent = replied.sent;
    flushed = replied.flushed;
  }

  -- more turns were replied to
  module _ (replied : IsRepliedUpTo first output rest) {old new : Stream} {sent : PushState} {turns : List Turn} (here : old.come ≡ rest) (next : AreReplied (state_after first output rest replied) old output.gone new sent turns) where
    abbrev pub IsRepliedUpTo-more : IsTrue sent.is_flushed → IsRepliedUpTo first sent new.come
    IsRepliedUpTo-more flushed =
        let ready = ready_text replied.history in
        record {
          dump = replied.dump;
          history = replied.history;
          is = replied.is;
          turns = replied.turns ++ turns;
          are = All-append IsTurn replied.turns turns replied.are next.are;
          read = subst (Consumes first.input.left new.come) (sym (flat_map-append turn_bytes replied.turns turns))
              (Consumes-trans first.input.left rest new.come (turns_bytes replied.turns) (turns_bytes turns) replied.read (subst (λ come. Consumes come new.come (turns_bytes turns)) here next.taken.bytes));
          said = replied.said ++ next.said;
          talk = IsTalk-append (start_of replied.dump) replied.turns turns replied.said next.said replied.talk next.talk;
          sent = subst (Appends first.output.gone sent.gone) (append_assoc ready replied.said next.said) (Appends-trans first.output.gone output.gone sent.gone (ready ++ replied.said) next.said replied.sent next.sent_is);
          flushed = flushed;
        }

-- nothing was read yet
pub IsCaughtUp-ready : (first : Ends) (sent : PushState) (rest : Option (List ℕ)) (dump : List ℕ) (history : HistoryOfBytes) (IsDump : List ℕ → Type 0) → IsLawfulDump dump history → IsDump dump → Consumes first.input.left rest []
    → Appends first.output.gone sent.gone (ready_text history) → IsTrue sent.is_flushed → IsCaughtUp first sent rest 0 IsDump
IsCaughtUp-ready first sent rest dump history IsDump is dump_is read ready flushed = record {
  replied = record {
    dump = dump;
    history = history;
    is = is;
    turns = [];
    are = All-nil IsTurn;
    read = read;
    said = [];
    talk = IsTalk-none (start_of dump);
    sent = subst (Appends first.output.gone sent.gone) (sym (append-nil (ready_text history))) ready;
    flushed = flushed;
  };
  dump_is = dump_is;
  answered_is = refl;
}

-- before anything was read ahead, the input is to come
pub Consumes-none : (unread : List ℕ) (left : Option (List ℕ)) → unread ≡ [] → Consumes left (prepend_known unread left) []
Consumes-none unread left nothing = rw (nothing, prepend_known-nil left) (Consumes-nil left)

module _ {first : Ends} {output : PushState} {rest : Option (List ℕ)} {answered : ℕ} {IsDump : List ℕ → Type 0} (before : IsCaughtUp first output rest answered IsDump) where
  -- where turns were replied to for each dump of the sort, as many queries into the talk
  pub IsRepliedUpTo-queries : {old new : Stream} {sent : PushState} {later : ℕ} → old.come ≡ rest
      → ((state : TalkState) → IsDump state.dump → state.answered ≡ answered → AreRepliedTo state old output.gone new sent later) → IsTrue sent.is_flushed → IsRepliedUpTo first sent new.come
  IsRepliedUpTo-queries here then flushed =
      IsRepliedUpTo-more before.replied here (then (state_after first output rest before.replied) before.dump_is before.answered_is).replied flushed

  -- a piece is next
  pub IsPieceNext-queries : {old new : Stream} {sent : PushState} {later size : ℕ} → old.come ≡ rest
      → ((state : TalkState) → IsDump state.dump → state.answered ≡ answered → IsUpToPiece state old output.gone new sent later size) → IsTrue sent.is_flushed → IsPieceNext first sent new.come size
  IsPieceNext-queries {old} {new} here then flushed =
      let up = then (state_after first output rest before.replied) before.dump_is before.answered_is in
      record {
        digits = up.line.digits;
        number = up.line.number;
        replied = IsRepliedUpTo-same (IsRepliedUpTo-more before.replied here up.replied.replied flushed) (prepend_known (line_text (piece_line up.line.digits)) new.come)
            (Consumes-back up.between.come new.come (line_text (piece_line up.line.digits)) up.line.taken.bytes);
      }

  -- a piece was taken
  pub IsCaughtUp-piece : {old new : Stream} {sent : PushState} {later : ℕ} {grown : History} → old.come ≡ rest
      → ((state : TalkState) → IsDump state.dump → state.answered ≡ answered → IsAfterPiece state old output.gone new sent later grown) → IsTrue sent.is_flushed → IsCaughtUp first sent new.come later (λ dump. IsHistoryOf dump grown)
  IsCaughtUp-piece {grown = grown} here then flushed =
      let now = state_after first output rest before.replied in
      let next = then now before.dump_is before.answered_is in
      let after = sym (after_turns-append (start_of before.replied.dump) before.replied.turns next.turns) in
      record {
        replied = IsRepliedUpTo-more before.replied here next.replied flushed;
        dump_is = subst (λ state. IsHistoryOf state.dump grown) after next.history_is;
        answered_is = sym (ap (λ state. state.answered) after) ∙ next.answered_is;
      }

  -- it is a dump of another sort too
  pub IsCaughtUp-of : {IsOther : List ℕ → Type 0} → ((dump : List ℕ) → IsDump dump → IsOther dump) → IsCaughtUp first output rest answered IsOther
  IsCaughtUp-of follows = record {
    replied = before.replied;
    dump_is = follows (state_after first output rest before.replied).dump before.dump_is;
    answered_is = before.answered_is;
  }

-- some of a piece was taken, not all
pub IsInPiece-taken : {first : Ends} {output : PushState} {rest : Option (List ℕ)} {size : ℕ} → IsPieceNext first output rest size → (later : Option (List ℕ)) (bytes : List ℕ) → length bytes < size → Consumes rest later bytes → IsInPiece first output later
IsInPiece-taken {rest = rest} {size = size} next later bytes short taken =
    let line = line_text (piece_line next.digits) in
    record {
      part = line ++ bytes;
      part_is = record { digits = next.digits; size = size; number = next.number; piece = bytes; short = short; whole = refl };
      replied = IsRepliedUpTo-same next.replied (prepend_known (line ++ bytes) later) (Consumes-ahead line bytes rest later taken);
    }

-- all that was read ahead was taken
pub IsAllRepliedTo-piece : {first : Ends} {output : PushState} {input : PullState} {unread : List ℕ} → IsInPiece first output (prepend_known unread input.left) → unread ≡ [] → IsAllRepliedTo first input output
IsAllRepliedTo-piece {first} {output} {input} {unread} in_piece nothing = record {
  part = in_piece.part;
  part_is = inr in_piece.part_is;
  replied = subst (λ rest. IsRepliedUpTo first output (prepend_known in_piece.part rest)) (ap (λ bytes. prepend_known bytes input.left) nothing ∙ prepend_known-nil input.left) in_piece.replied;
}
