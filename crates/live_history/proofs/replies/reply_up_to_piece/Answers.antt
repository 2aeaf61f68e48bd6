use Rattle.live_history.proofs.Common.{◌≡◌, ap, refl, subst, ◌∙◌, arith, err_from_is_err_and, stream, IfTurn, IsNext}
use Rattle.live_history.proofs.Ends.{IsOutputKept-sound}
use Rattle.live_history.proofs.Queries.{AreAllReplied-then, AreRepliedTo-more, AreRepliedTo-none, AreRepliedTo-read, IsEndEarly-line, IsEndEarly-memory, IsEndEarly-then}
use Rattle.live_history.proofs.Waiting.{IsRepliedUpTo-queries}
use Rattle.live_history.proofs.replies.reply_up_to_piece.Goals as goal

pub returns-in_err-memo-clause-error : goal.returns-in_err-memo-clause-error
returns-in_err-memo-clause-error g c =
    let told = err_from_is_err_and c.from_residual.result c.from_residual.ensures.1 in
    rw (told.1, told.2) (λ state is same. IsEndEarly-memory state (omega (arith, same, c.requires.few_answered)) c.args.ahead.now (g.C.Client.input c.args.client.now) (g.C.Client.output c.args.client.now))

pub turns-init : goal.turns-init
turns-init g c = record {
  replied = λ state is same. AreRepliedTo-none state (stream c.args.ahead.now (g.C.Client.input c.args.client.now)) (g.C.Client.output c.args.client.now) c.args.answered.now same;
  flushed = λ is. is;
  sound = λ is. is;
  few = c.requires.few_answered;
  less = omega arith;
  unfailed = refl;
  unended = refl;
  sent_all = refl;
  first = refl;
}

pub read_next-requires : goal.read_next-requires
read_next-requires g c =
    let kept = c.turns.invariant in
    record { replied = rw kept.first (IsRepliedUpTo-queries c.requires.replied refl kept.replied (kept.flushed c.requires.replied.replied.flushed)) }

pub returns-in_err-read_next-clause-error : goal.returns-in_err-read_next-clause-error
returns-in_err-read_next-clause-error g c =
    let told = err_from_is_err_and c.from_residual-in_err-read_next.result c.from_residual-in_err-read_next.ensures.1 in
    rw (told.1, told.2, c.read_next.ensures.output) (λ state is same. IsEndEarly-line (c.turns.invariant.replied state is same) (g.C.Client.input c.read_next.new.client) _ c.turns.invariant.few c.in_err-read_next.ensures.error)

pub turns-preserved : goal.turns-preserved
turns-preserved g c =
    let input = g.C.Client.input c.read_next.new.client in
    let next = subst (IsNext (stream c.turns.ahead (g.C.Client.input c.turns.client)) c.read_next.new.ahead input) c.in-Query.is c.in_ok-read_next.ensures.next in
    let replied = c.in_ok-reply_to_queries-in-Query.ensures in
    record {
      replied = rw replied.input (λ state is same. AreRepliedTo-more (AreRepliedTo-read (c.turns.invariant.replied state is same) next.2) (rw c.read_next.ensures.output at replied.ok (record { dump = state.dump; answered = c.turns.answered }) is refl input));
      flushed = λ is. replied.flushed;
      sound = λ is. replied.sound;
      few = replied.few;
      less = omega (arith, replied.less, c.in_ok-read_next.ensures.room, c.turns.invariant.less);
      unfailed = rw replied.input (c.in_ok-read_next.ensures.unfailed ∙ c.turns.invariant.unfailed);
      unended = rw replied.input (subst (λ turn. IfTurn turn (input.ends ≡ (g.C.Client.input c.turns.client).ends)) c.in-Query.is c.in_ok-read_next.ensures.unended ∙ c.turns.invariant.unended);
      sent_all = replied.sent_all ∙ ap (λ output. output.failures) c.in_ok-read_next.ensures.output ∙ c.turns.invariant.sent_all;
      first = replied.first ∙ c.in_ok-read_next.ensures.first ∙ c.turns.invariant.first;
    }

pub returns-in_err-reply_to_queries-in-Query-clause-error : goal.returns-in_err-reply_to_queries-in-Query-clause-error
returns-in_err-reply_to_queries-in-Query-clause-error g c =
    let told = err_from_is_err_and c.from_residual-in_err-reply_to_queries-in-Query.result c.from_residual-in_err-reply_to_queries-in-Query.ensures.1 in
    let input = g.C.Client.input c.read_next.new.client in
    let next = subst (IsNext (stream c.turns.ahead (g.C.Client.input c.turns.client)) c.read_next.new.ahead input) c.in-Query.is c.in_ok-read_next.ensures.next in
    rw (told.1, told.2, c.reply_to_queries.ensures.input) (λ state is same. IsEndEarly-then (AreRepliedTo-read (c.turns.invariant.replied state is same) next.2) input (g.C.Client.output c.reply_to_queries.new.client) _
    (rw c.read_next.ensures.output at c.in_err-reply_to_queries-in-Query.ensures.error (record { dump = state.dump; answered = c.turns.answered }) is refl input))

pub returns-in_err-memo-clause-kept : goal.returns-in_err-memo-clause-kept
returns-in_err-memo-clause-kept g c =
    let told = err_from_is_err_and c.from_residual.result c.from_residual.ensures.1 in
    rw (told.1, told.2) (λ flushed sound. (flushed, sound))

pub returns-in_err-read_next-clause-kept : goal.returns-in_err-read_next-clause-kept
returns-in_err-read_next-clause-kept g c =
    let told = err_from_is_err_and c.from_residual-in_err-read_next.result c.from_residual-in_err-read_next.ensures.1 in
    rw (told.1, told.2, c.read_next.ensures.output) (λ flushed sound. IsOutputKept-sound (g.C.Client.output c.turns.client) c.in_err-read_next.field-0.0 (c.turns.invariant.flushed flushed) (c.turns.invariant.sound sound))

pub returns-in_err-reply_to_queries-in-Query-clause-kept : goal.returns-in_err-reply_to_queries-in-Query-clause-kept
returns-in_err-reply_to_queries-in-Query-clause-kept g c =
    let told = err_from_is_err_and c.from_residual-in_err-reply_to_queries-in-Query.result c.from_residual-in_err-reply_to_queries-in-Query.ensures.1 in
    rw (told.1, told.2) (λ flushed sound. (rw c.read_next.ensures.output at c.in_err-reply_to_queries-in-Query.ensures.kept) (c.turns.invariant.flushed flushed) (c.turns.invariant.sound sound))

pub returns-in-End-clause-ok : goal.returns-in-End-clause-ok
returns-in-End-clause-ok g c = rw c.read_next.ensures.output (λ state is same.
    let after = g.C.Client.input c.read_next.new.client in
    AreAllReplied-then (c.turns.invariant.replied state is same) after c.turns.invariant.few
    (subst (IsNext (stream c.turns.ahead (g.C.Client.input c.turns.client)) c.read_next.new.ahead after) c.in-End.is c.in_ok-read_next.ensures.next))
