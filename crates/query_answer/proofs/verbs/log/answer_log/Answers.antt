use Rattle.query_answer.proofs.Common.{err_from_is_err_and, history_in_bytes, log_lines, ok_answer, AreHitsIn, trees_in_bytes}
use Rattle.query_answer.proofs.AnswerTexts.{IsAnswer-Log, HasAnswer-peg_refused}
use Rattle.query_answer.proofs.verbs.log.answer_log.Goals as goal

pub returns-in_err-at : goal.returns-in_err-at
returns-in_err-at c =
    let dump = c.args.repo.now in
    let (error, errs, same) = err_from_is_err_and c.from_residual.result c.from_residual.ensures.1 in
    rw (errs, same) (HasAnswer-peg_refused dump c.args.peg.now c.in_err-at.field-0.0 c.in_err-at.ensures.refused (λ found. ok_answer (log_lines (history_in_bytes dump) (trees_in_bytes dump) found c.args.range)))

pub returns : goal.returns
returns c =
    let dump = c.args.repo.now in
    let found = c.in_ok-at.ensures.found in
    let segments = c.in_ok-segments.segments in
    let hits = c.in_ok-hits.hits in
    let so = c.in_ok-segments.ensures.by_number in
    let hits_in : AreHitsIn dump segments.items c.args.range hits.items = rw c.as_slice.ensures.value at c.in_ok-hits.ensures in
    IsAnswer-Log dump c.args.peg.now c.in_ok-at.at found segments so.exact so.maximal c.args.range hits
    (hits_in c.in_ok-at.at.path c.in_ok-at.at.rev found.is_in.there so)
