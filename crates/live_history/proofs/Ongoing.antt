-- A talk that goes on with a piece.
use Rattle.live_history.proofs.Common.{◌≡◌, ℕ, ◌≤◌, inl, inr, List, [], ◌∷◌, ◌++◌, Option, Some, length, refl, sym, ap, subst, ◌∙◌, append-nil, arith, take, Appends, IsFalse, IsTrue, All-cons, All-nil, PullState, PushState, line_text, history_in_bytes, most_bytes, IsGrown, IsHistoryOf, IsPieceEnd, ReadAheadValue, stream, AreReplied, IsUpToPiece, AreTaken, IsReadUpTo, Stream, IsTalk, TalkState, after_turns, ready_text, IsEndEarly, IsOutputKept, most_answered, IsAfterPiece, IsUnsaid, IsTurn, Turn, piece, piece_line, turn_bytes, turns_bytes, History, TalkError, Run, Unsent}
use Rattle.devices.specs.declared.sending.SendError.{SendError}
use Rattle.svn_report.specs.declared.run_error.RunError.TheVariants as run
use Rattle.live_history.proofs.Ends.{AreReplied-more, AreReplied-none, IsEndEarly-more, IsEndEarly-now, IsOutputKept-sound, IsPieceReason-more}
use Rattle.live_history.proofs.ReadAheads.{Consumes-unread}
use Rattle.live_history.proofs.Streams.{AreTaken-more, IsReadUpTo-more}
use Rattle.live_history.proofs.Talks.{IsTalk-none, IsTalk-one, after_turns-append}

-- ---- a piece after queries

module _ (state : TalkState) (old : Stream) (gone : Option (List ℕ)) (mid : Stream) (between : PushState) (answered size : ℕ) (up : IsUpToPiece state old gone mid between answered size) (few : answered ≤ most_answered) where
  abbrev pub asked : TalkState
  asked = record { dump = state.dump; answered = answered }

  -- why the talk ended after the line before the piece, seen from before the queries
  pub IsEndEarly-queries : (after : PullState) (sent : PushState) (error : TalkError) → IsEndEarly asked up.between between.gone after sent error → IsEndEarly state old gone after sent error
  IsEndEarly-queries after sent error next =
      IsEndEarly-more up.replied.replied (subst (λ later. IsEndEarly later up.between between.gone after sent error) (sym up.replied.after_is) next)

  -- it was not taken
  pub IsEndEarly-piece : (after : PullState) (error : TalkError) → IsPieceEnd state.dump size mid after error → IsEndEarly state old gone after between error
  IsEndEarly-piece after error end =
      let line = up.line in
      let rest = line_text (piece_line line.digits) ++ end.rest in
      IsEndEarly-queries after between error (IsEndEarly-now asked up.between between.gone after between error rest few refl (IsReadUpTo-more line.taken end.read) (inl (
        refl,
        inr (inl (record {
          digits = line.digits;
          size = size;
          number = line.number;
          bytes = end.rest;
          whole = refl;
          why = IsPieceReason-more line.taken state.dump size end.rest end.why;
        })),
      )))

  module _ (ahead : ReadAheadValue) (input : PullState) (grown : History) (is : IsGrown state.dump size mid (stream ahead input) grown) (near : length ahead.unread ≤ most_bytes) where
    abbrev turn : Turn
    turn = piece up.line.digits is.bytes

    abbrev ready : List ℕ
    ready = ready_text (history_in_bytes grown.repo)

    turn_is : IsTurn turn
    turn_is = up.line.number ∙ ap (λ n. Some n) (sym is.all)

    taken : AreTaken up.between (stream ahead input) (turns_bytes (turn ∷ []))
    taken = subst (AreTaken up.between (stream ahead input)) (sym (append-nil (turn_bytes turn))) (AreTaken-more up.line.taken is.taken)

    talk : IsTalk asked (turn ∷ []) ready
    talk = IsTalk-one asked turn ready (history_in_bytes grown.repo, is.is.dump, refl)

    unread : IsReadUpTo up.between input (turns_bytes (turn ∷ []) ++ ahead.unread)
    unread = IsReadUpTo-more taken (record { bytes = Consumes-unread ahead.unread input.left; once = omega arith; ends = omega arith; failures = omega arith; few = omega arith })

    -- there was no memory for what is said for it
    pub IsEndEarly-silent : IsEndEarly state old gone input between (Run run.Memory)
    IsEndEarly-silent =
        IsEndEarly-queries input between (Run run.Memory) (IsEndEarly-now asked up.between between.gone input between (Run run.Memory) (turns_bytes (turn ∷ []) ++ ahead.unread) few refl unread
        (inl (refl, inr (inr (inr (inr refl))))))

    -- a front of it went out
    pub IsEndEarly-unsent : (sent : PushState) (cause : SendError) → cause.sent ≤ length ready → Appends between.gone sent.gone (take cause.sent ready) → IsTrue sent.has_failed → IsEndEarly state old gone input sent (Unsent cause)
    IsEndEarly-unsent sent cause within part failed = IsEndEarly-queries input sent (Unsent cause) (record {
      turns = [];
      rest = turns_bytes (turn ∷ []) ++ ahead.unread;
      are = All-nil IsTurn;
      few = few;
      read = unread;
      said = [];
      part = take cause.sent ready;
      talk = IsTalk-none asked;
      sent_is = part;
      why = inr (record {
        cause = cause;
        is = refl;
        turns = turn ∷ [];
        more = ahead.unread;
        are = All-cons IsTurn turn [] turn_is (All-nil IsTurn);
        some = omega arith;
        few = few;
        whole = refl;
        near = near;
        said = ready;
        talk = talk;
        within = within;
        part_is = refl;
        failed = failed;
      });
    })

    -- it went out
    pub AreReplied-piece : (sent : PushState) → Appends between.gone sent.gone ready → AreReplied state old gone (stream ahead input) sent (up.replied.turns ++ turn ∷ [])
    AreReplied-piece sent all =
        AreReplied-more up.replied.replied (subst (λ later. AreReplied later up.between between.gone (stream ahead input) sent (turn ∷ [])) (sym up.replied.after_is) (record {
          are = All-cons IsTurn turn [] turn_is (All-nil IsTurn);
          taken = taken;
          said = ready;
          talk = talk;
          sent_is = all;
        }))

    pub after_turns-piece : after_turns state (up.replied.turns ++ turn ∷ []) ≡ record { dump = state.dump ++ is.bytes; answered = answered }
    after_turns-piece = after_turns-append state up.replied.turns (turn ∷ []) ∙ ap (λ later. after_turns later (turn ∷ [])) up.replied.after_is

    -- so the talk goes on
    pub IsAfterPiece-ready : (sent : PushState) → Appends between.gone sent.gone ready → IsAfterPiece state old gone (stream ahead input) sent answered grown
    IsAfterPiece-ready sent all = record {
      turns = up.replied.turns ++ turn ∷ [];
      replied = AreReplied-piece sent all;
      history_is = subst (λ each. IsHistoryOf each.dump grown) (sym after_turns-piece) is.is;
      answered_is = ap (λ each. each.answered) after_turns-piece;
    }

    pub IsEndEarly-unsaid : (sent : PushState) (error : TalkError) → IsUnsaid ready between sent error → IsEndEarly state old gone input sent error
    IsEndEarly-unsaid sent error (inl (memory, same)) = rw (memory, same) IsEndEarly-silent
    IsEndEarly-unsaid sent error (inr part) = rw part.is (IsEndEarly-unsent sent part.cause part.within part.part part.failed)

-- where not all of a text went out
pub IsOutputKept-unsaid : (text : List ℕ) (old sent : PushState) (error : TalkError) → IsUnsaid text old sent error → IsTrue old.is_flushed → IsFalse old.has_failed → IsOutputKept sent error
IsOutputKept-unsaid text old sent error (inl (memory, same)) flushed sound = rw same (IsOutputKept-sound old error flushed sound)
IsOutputKept-unsaid text old sent error (inr part) flushed sound = rw part.is tt

-- no piece was taken yet
pub IsAfterPiece-none : (state : TalkState) (old : Stream) (sent : PushState) (history : History) → IsHistoryOf state.dump history → IsAfterPiece state old sent.gone old sent state.answered history
IsAfterPiece-none state old sent history is = record { turns = []; replied = AreReplied-none state old sent; history_is = is; answered_is = refl }

module _ {state : TalkState} {old mid : Stream} {gone : Option (List ℕ)} {between : PushState} {answered : ℕ} {history : History} (first : IsAfterPiece state old gone mid between answered history) where
  abbrev pub now : TalkState
  now = after_turns state first.turns

  pub IsAfterPiece-more : {new : Stream} {sent : PushState} {later : ℕ} {grown : History} → IsAfterPiece now mid between.gone new sent later grown → IsAfterPiece state old gone new sent later grown
  IsAfterPiece-more {new} {sent} {later} {grown} next =
      let after = after_turns-append state first.turns next.turns in
      record {
        turns = first.turns ++ next.turns;
        replied = AreReplied-more first.replied next.replied;
        history_is = subst (λ each. IsHistoryOf each.dump grown) (sym after) next.history_is;
        answered_is = ap (λ each. each.answered) after ∙ next.answered_is;
      }
