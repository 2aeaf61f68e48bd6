use Rattle.live_history.proofs.Common.{◌≡◌, ◌+◌, ◌-◌, length, take, drop, sym, ap, subst, ◌∙◌, arith, length-drop, rules, Appends, length-map, err_from_is_err_and, replies, AreQueries}
use Rattle.svn_report.specs.Answering.{lent_lines}
use Rattle.live_history.proofs.Queries.{AreRepliedTo-queries, IsEndEarly-many, IsEndEarly-memory, IsEndEarly-part, less-queries}
use Rattle.live_history.proofs.replies.reply_to_queries.Goals as goal

pub returns-then-most-eq0-clause-error : goal.returns-then-most-eq0-clause-error
returns-then-most-eq0-clause-error g c = λ state is same input.
    IsEndEarly-many state (omega (arith, same, c.requires.few_answered)) c.args.ahead.now input (g.C.Client.output c.args.client.now) c.requires.query c.requires.near (omega (arith, same, c.if-most-eq0.true, c.min-most.ensures, c.args.workers.some))

pub returns-in_err-lines-clause-error : goal.returns-in_err-lines-clause-error
returns-in_err-lines-clause-error g c =
    let told = err_from_is_err_and c.from_residual.result c.from_residual.ensures.1 in
    rw (told.1, told.2) (λ state is same input. IsEndEarly-memory state (omega (arith, same, c.requires.few_answered)) c.args.ahead.now input (g.C.Client.output c.args.client.now))

pub returns-in_err-text-clause-error : goal.returns-in_err-text-clause-error
returns-in_err-text-clause-error g c =
    let told = err_from_is_err_and c.from_residual-in_err-text.result c.from_residual-in_err-text.ensures.1 in
    rw (told.1, told.2) (λ state is same input. IsEndEarly-memory state (omega (arith, same, c.requires.few_answered)) c.args.ahead.now input (g.C.Client.output c.args.client.now))

pub returns-in_err-send-clause-error : goal.returns-in_err-send-clause-error
returns-in_err-send-clause-error g c =
    let told = err_from_is_err_and c.from_residual-in_err-send.result c.from_residual-in_err-send.ensures.1 in
    let dump = c.args.repo.now in
    let ahead = c.args.ahead.now in
    let lines = lent_lines c.in_ok-lines.lines.items in
    let rest = c.in_ok-lines.rest.now in
    let are = subst (λ all. AreQueries all lines rest) c.unread.ensures c.in_ok-lines.ensures.queries in
    let old = g.C.Client.output c.args.client.now in
    let new = g.C.Client.output c.send.new.self in
    let cause = c.in_err-send.field-0.0 in
    rw (told.1, told.2) (λ state is same input.
    let text : c.as_slice-2.result.now ≡ replies dump state.answered lines =
    c.as_slice-2.ensures.value ∙ c.in_ok-text.ensures ∙ ap (λ all. replies dump c.args.answered.now (lent_lines all)) c.as_slice.ensures.value ∙ ap (λ n. replies dump n lines) (sym same) in
    let counted = length-map c.in_ok-lines.lines.items (λ line. line.now) in
    IsEndEarly-part dump state is ahead input lines rest are old.gone new cause (omega (arith, same, counted, c.in_ok-lines.ensures.few, c.min-most.ensures, c.requires.few_answered)) (omega (arith, counted, c.in_ok-lines.ensures.some)) c.requires.near
    (omega (arith, c.in_err-send.ensures.within, ap length text))
    (subst (λ all. Appends old.gone new.gone (take cause.sent all)) text c.in_err-send.ensures.sent) (search (rules, c.in_err-send.ensures.failed)))

pub returns-then-most-eq0-clause-kept : goal.returns-then-most-eq0-clause-kept
returns-then-most-eq0-clause-kept g c = λ flushed sound. (flushed, sound)

pub returns-in_err-lines-clause-kept : goal.returns-in_err-lines-clause-kept
returns-in_err-lines-clause-kept g c =
    let told = err_from_is_err_and c.from_residual.result c.from_residual.ensures.1 in
    rw (told.1, told.2) (λ flushed sound. (flushed, sound))

pub returns-in_err-text-clause-kept : goal.returns-in_err-text-clause-kept
returns-in_err-text-clause-kept g c =
    let told = err_from_is_err_and c.from_residual-in_err-text.result c.from_residual-in_err-text.ensures.1 in
    rw (told.1, told.2) (λ flushed sound. (flushed, sound))

pub returns-in_err-send-clause-kept : goal.returns-in_err-send-clause-kept
returns-in_err-send-clause-kept g c =
    let told = err_from_is_err_and c.from_residual-in_err-send.result c.from_residual-in_err-send.ensures.1 in
    rw (told.1, told.2) (λ flushed sound. tt)

pub returns-clause-ok : goal.returns-clause-ok
returns-clause-ok g c = λ state is same input.
    let dump = c.args.repo.now in
    let ahead = c.args.ahead.now in
    let lines = lent_lines c.in_ok-lines.lines.items in
    let rest = c.in_ok-lines.rest.now in
    let are = subst (λ all. AreQueries all lines rest) c.unread.ensures c.in_ok-lines.ensures.queries in
    let old = g.C.Client.output c.args.client.now in
    let new = g.C.Client.output c.send.new.self in
    let text : c.as_slice-2.result.now ≡ replies dump state.answered lines =
    c.as_slice-2.ensures.value ∙ c.in_ok-text.ensures ∙ ap (λ all. replies dump c.args.answered.now (lent_lines all)) c.as_slice.ensures.value ∙ ap (λ n. replies dump n lines) (sym same) in
    AreRepliedTo-queries dump state is ahead input lines rest are c.take.new.self old.gone new (c.args.answered.now + c.len.result)
    (c.take.ensures.unread ∙ ap (λ all. drop (length all - length rest) ahead.unread) c.unread-2.ensures) c.take.ensures.reads
    (subst (Appends old.gone new.gone) text c.in_ok-send.ensures.ok)
    (omega (arith, same, c.len.ensures, length-map c.in_ok-lines.lines.items (λ line. line.now)))

pub returns-clause-less : goal.returns-clause-less
returns-clause-less g c =
    let ahead = c.args.ahead.now in
    let lines = lent_lines c.in_ok-lines.lines.items in
    let rest = c.in_ok-lines.rest.now in
    let are = subst (λ all. AreQueries all lines rest) c.unread.ensures c.in_ok-lines.ensures.queries in
    let counted = length-map c.in_ok-lines.lines.items (λ line. line.now) in
    let less = less-queries ahead.unread rest lines are (omega (arith, counted, c.in_ok-lines.ensures.some)) in
    let left = ap length (c.take.ensures.unread ∙ ap (λ all. drop (length all - length rest) ahead.unread) c.unread-2.ensures) in
    omega (arith, less, left, length-drop (length ahead.unread - length rest) ahead.unread, c.take.ensures.reads)
