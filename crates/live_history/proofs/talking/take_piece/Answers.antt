use Rattle.live_history.proofs.Common.{◌<◌, refl, subst, arith, IfSome, err_from_is_err_and, history_in_bytes, room, stream, IsUpToNext, ready_text}
use Rattle.live_history.proofs.Ends.{IsOutputKept-sound}
use Rattle.live_history.proofs.Ongoing.{IsAfterPiece-ready, IsEndEarly-piece, IsEndEarly-unsaid, IsOutputKept-unsaid}
use Rattle.live_history.proofs.Waiting.{IsCaughtUp-of, IsPieceNext-queries}
use Rattle.live_history.proofs.talking.take_piece.Goals as goal

pub reply_up_to_piece-requires-clause-replied : goal.reply_up_to_piece-requires-clause-replied
reply_up_to_piece-requires-clause-replied g c κs within = IsCaughtUp-of c.requires.replied (λ dump is. is.dump)

pub grow-requires-clause-piece : goal.grow-requires-clause-piece
grow-requires-clause-piece g c κs within =
    let old = stream c.args.ahead.now (g.C.Client.input c.args.client.now) in
    let gone = (g.C.Client.output c.args.client.now).gone in
    let after = g.C.Client.input c.reply_up_to_piece.new.client in
    let mid = stream c.reply_up_to_piece.new.ahead after in
    let between = g.C.Client.output c.reply_up_to_piece.new.client in
    let answered = c.reply_up_to_piece.new.answered in
    rw c.reply_up_to_piece.ensures.first
    (IsPieceNext-queries (IsCaughtUp-of c.requires.replied (λ dump is. is.dump)) refl
    (λ state is same. subst (IsUpToNext state old gone mid after between answered) c.in-Ok-Some.field-0-is (c.in-Ok-Some.ensures.ok state is same))
    (c.in-Ok-Some.ensures.flushed c.requires.replied.replied.flushed))

pub returns-in_err-grown-in-Ok-Some-clause-error : goal.returns-in_err-grown-in-Ok-Some-clause-error
returns-in_err-grown-in-Ok-Some-clause-error g c =
    let told = err_from_is_err_and c.from_residual.result c.from_residual.ensures.1 in
    let old = stream c.args.ahead.now (g.C.Client.input c.args.client.now) in
    let gone = (g.C.Client.output c.args.client.now).gone in
    let after = g.C.Client.input c.reply_up_to_piece.new.client in
    let mid = stream c.reply_up_to_piece.new.ahead after in
    let between = g.C.Client.output c.reply_up_to_piece.new.client in
    let answered = c.reply_up_to_piece.new.answered in
    rw (told.1, told.2, c.grow.ensures.output) (λ state is same.
    IsEndEarly-piece state old gone mid between answered c.in-Ok-Some.size (subst (IsUpToNext state old gone mid after between answered) c.in-Ok-Some.field-0-is (c.in-Ok-Some.ensures.ok state is.dump same)) c.in-Ok-Some.ensures.few_answered
    (g.C.Client.input c.grow.new.client) _ (c.in_err-grown-in-Ok-Some.ensures.error state.dump is))

pub returns-in-Ok-clause-taken : goal.returns-in-Ok-clause-taken
returns-in-Ok-clause-taken g c = λ state is same.
    let old = stream c.args.ahead.now (g.C.Client.input c.args.client.now) in
    let gone = (g.C.Client.output c.args.client.now).gone in
    let after = g.C.Client.input c.reply_up_to_piece.new.client in
    let mid = stream c.reply_up_to_piece.new.ahead after in
    let between = g.C.Client.output c.reply_up_to_piece.new.client in
    let answered = c.reply_up_to_piece.new.answered in
    rw c.say_ready.ensures.input (IsAfterPiece-ready state old gone mid between answered c.in-Ok-Some.size (subst (IsUpToNext state old gone mid after between answered) c.in-Ok-Some.field-0-is (c.in-Ok-Some.ensures.ok state is.dump same)) c.in-Ok-Some.ensures.few_answered
    c.grow.new.ahead (g.C.Client.input c.grow.new.client) c.in_ok-grown-in-Ok-Some.grown (c.in_ok-grown-in-Ok-Some.ensures.ok state.dump is) c.in_ok-grown-in-Ok-Some.ensures.near (g.C.Client.output c.say_ready.new.client)
    (rw c.grow.ensures.output at c.in-Ok.ensures.said))

pub returns-in-Ok-clause-less : goal.returns-in-Ok-clause-less
returns-in-Ok-clause-less g c =
    let less = subst (λ found. IfSome found (λ size. room c.reply_up_to_piece.new.ahead < room c.args.ahead.now)) c.in-Ok-Some.field-0-is c.in-Ok-Some.ensures.less in
    omega (arith, less, c.in_ok-grown-in-Ok-Some.ensures.room)

pub returns-in-Err-say_ready-clause-error : goal.returns-in-Err-say_ready-clause-error
returns-in-Err-say_ready-clause-error g c = λ state is same.
    let old = stream c.args.ahead.now (g.C.Client.input c.args.client.now) in
    let gone = (g.C.Client.output c.args.client.now).gone in
    let after = g.C.Client.input c.reply_up_to_piece.new.client in
    let mid = stream c.reply_up_to_piece.new.ahead after in
    let between = g.C.Client.output c.reply_up_to_piece.new.client in
    let answered = c.reply_up_to_piece.new.answered in
    rw c.say_ready.ensures.input (IsEndEarly-unsaid state old gone mid between answered c.in-Ok-Some.size (subst (IsUpToNext state old gone mid after between answered) c.in-Ok-Some.field-0-is (c.in-Ok-Some.ensures.ok state is.dump same)) c.in-Ok-Some.ensures.few_answered
    c.grow.new.ahead (g.C.Client.input c.grow.new.client) c.in_ok-grown-in-Ok-Some.grown (c.in_ok-grown-in-Ok-Some.ensures.ok state.dump is) c.in_ok-grown-in-Ok-Some.ensures.near (g.C.Client.output c.say_ready.new.client)
    c.in-Err-say_ready.e (rw c.grow.ensures.output at c.in-Err-say_ready.ensures.error))

pub returns-in_err-grown-in-Ok-Some-clause-kept : goal.returns-in_err-grown-in-Ok-Some-clause-kept
returns-in_err-grown-in-Ok-Some-clause-kept g c =
    let told = err_from_is_err_and c.from_residual.result c.from_residual.ensures.1 in
    let between = g.C.Client.output c.reply_up_to_piece.new.client in
    rw (told.1, told.2, c.grow.ensures.output) (λ flushed sound. IsOutputKept-sound between c.in_err-grown-in-Ok-Some.field-0.0 (c.in-Ok-Some.ensures.flushed flushed) (c.in-Ok-Some.ensures.sound sound))

pub returns-in-Err-say_ready-clause-kept : goal.returns-in-Err-say_ready-clause-kept
returns-in-Err-say_ready-clause-kept g c = λ flushed sound.
    IsOutputKept-unsaid (ready_text (history_in_bytes c.in_ok-grown-in-Ok-Some.grown.repo)) (g.C.Client.output c.reply_up_to_piece.new.client) (g.C.Client.output c.say_ready.new.client) c.in-Err-say_ready.e
    (rw c.grow.ensures.output at c.in-Err-say_ready.ensures.error) (c.in-Ok-Some.ensures.flushed flushed) (c.in-Ok-Some.ensures.sound sound)

pub returns-in-Ok-None-clause-end : goal.returns-in-Ok-None-clause-end
returns-in-Ok-None-clause-end g c = λ state is same.
    let old = stream c.args.ahead.now (g.C.Client.input c.args.client.now) in
    let gone = (g.C.Client.output c.args.client.now).gone in
    let after = g.C.Client.input c.reply_up_to_piece.new.client in
    let mid = stream c.reply_up_to_piece.new.ahead after in
    let between = g.C.Client.output c.reply_up_to_piece.new.client in
    subst (IsUpToNext state old gone mid after between c.reply_up_to_piece.new.answered) c.in-Ok-None.field-0-is (c.in-Ok-None.ensures.ok state is.dump same)
