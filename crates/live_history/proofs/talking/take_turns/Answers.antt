use Rattle.live_history.proofs.Common.{◌≡◌, ◌≤◌, ◌+◌, None, Option, Some, refl, subst, ◌∙◌, arith, IfNone, IfSome, err_from_is_err_and, IsWholeHistory, IsHistoryOf, room, stream, TalkState, after_turns, IsAfterPiece}
use Rattle.live_history.proofs.Ends.{AreAllReplied-more, IsEndEarly-more}
use Rattle.live_history.proofs.Ongoing.{IsAfterPiece-more, IsAfterPiece-none}
use Rattle.live_history.proofs.Waiting.{IsCaughtUp-piece}
use Rattle.live_history.proofs.talking.take_turns.Goals as goal

-- what holds where there is none
none-of : {X : Type 0} (P : Type 0) (found : Option X) → ((x : X) → found ≡ Some x → ⊥) → IfNone found P → P
none-of P None not is = is
none-of P (Some x) not is = absurd (not x refl)

pub pieces-init : goal.pieces-init
pieces-init g c = record {
  after = λ state is same.
      let old = stream c.args.ahead.now (g.C.Client.input c.args.client.now) in
      let sent = g.C.Client.output c.args.client.now in
      subst (λ n. IsAfterPiece state old sent.gone old sent n c.args.history) same (IsAfterPiece-none state old sent c.args.history is);
  whole = c.requires.whole;
  few = c.requires.few;
  few_answered = omega arith;
  flushed = λ is. is;
  sound = λ is. is;
  unfailed = refl;
  unended = refl;
  sent_all = refl;
  first = refl;
}

pub take_piece-requires-clause-replied : goal.take_piece-requires-clause-replied
take_piece-requires-clause-replied g c κs within =
    let kept = c.pieces.invariant in
    rw kept.first (IsCaughtUp-piece c.requires.replied refl kept.after (kept.flushed c.requires.replied.replied.flushed))

pub returns-in_err-grown-clause-error : goal.returns-in_err-grown-clause-error
returns-in_err-grown-clause-error g c =
    let told = err_from_is_err_and c.from_residual.result c.from_residual.ensures.1 in
    rw (told.1, told.2) (λ state is same.
    let first = c.pieces.invariant.after state is same in
    IsEndEarly-more first.replied (c.in_err-grown.ensures.error (after_turns state first.turns) first.history_is first.answered_is))

pub returns-in_err-grown-clause-kept : goal.returns-in_err-grown-clause-kept
returns-in_err-grown-clause-kept g c =
    let told = err_from_is_err_and c.from_residual.result c.from_residual.ensures.1 in
    rw (told.1, told.2) (λ flushed sound. c.in_err-grown.ensures.kept (c.pieces.invariant.flushed flushed) (c.pieces.invariant.sound sound))

pub pieces-preserved : goal.pieces-preserved
pieces-preserved g c =
    let found = c.in_ok-grown.ensures in
    let new = stream c.take_piece.new.ahead (g.C.Client.input c.take_piece.new.client) in
    let sent = g.C.Client.output c.take_piece.new.client in
    let few = subst (λ next. IfSome next (λ grown. grown.paused.count + room c.take_piece.new.ahead ≤ c.pieces.history.paused.count + room c.pieces.ahead)) c.in-Some.is found.few in
    record {
      after = λ state is same.
          let first = c.pieces.invariant.after state is same in
          let taken = subst (λ next. IfSome next (λ grown. (later : TalkState) → IsHistoryOf later.dump c.pieces.history → later.answered ≡ c.pieces.answered
          → IsAfterPiece later (stream c.pieces.ahead (g.C.Client.input c.pieces.client)) (g.C.Client.output c.pieces.client).gone new sent c.take_piece.new.answered grown)) c.in-Some.is found.taken in
          IsAfterPiece-more first (taken (after_turns state first.turns) first.history_is first.answered_is);
      whole = subst (λ next. IfSome next (λ grown. IsWholeHistory grown.repo)) c.in-Some.is found.whole;
      few = omega (arith, few, c.pieces.invariant.few);
      few_answered = found.few_answered;
      flushed = λ is. found.flushed (c.pieces.invariant.flushed is);
      sound = λ is. found.sound (c.pieces.invariant.sound is);
      unfailed = found.unfailed ∙ c.pieces.invariant.unfailed;
      unended = subst (λ next. IfSome next (λ grown. (g.C.Client.input c.take_piece.new.client).ends ≡ (g.C.Client.input c.pieces.client).ends)) c.in-Some.is found.unended ∙ c.pieces.invariant.unended;
      sent_all = found.sent_all ∙ c.pieces.invariant.sent_all;
      first = found.first ∙ c.pieces.invariant.first;
    }

pub returns-clause-ok : goal.returns-clause-ok
returns-clause-ok g c = λ state is same.
    let first = c.pieces.invariant.after state is same in
    AreAllReplied-more first.replied (none-of _ c.in_ok-grown.field-0 c.in_default.not-Some c.in_ok-grown.ensures.end (after_turns state first.turns) first.history_is first.answered_is)
