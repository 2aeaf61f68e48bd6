use Rattle.query_answer.proofs.Common.{err_from_is_err_and, ok_answer, segments_lines, trees_in_bytes}
use Rattle.query_answer.proofs.AnswerTexts.{IsAnswer-Segments, HasAnswer-peg_refused}
use Rattle.query_answer.proofs.verbs.segments.answer_segments.Goals as goal

pub returns-in_err-at : goal.returns-in_err-at
returns-in_err-at c =
    let (error, errs, same) = err_from_is_err_and c.from_residual.result c.from_residual.ensures.1 in
    rw (errs, same) (HasAnswer-peg_refused c.args.repo.now c.args.peg.now c.in_err-at.field-0.0 c.in_err-at.ensures.refused (λ found. ok_answer (segments_lines (trees_in_bytes c.args.repo.now) found)))

pub returns : goal.returns
returns c = IsAnswer-Segments c.args.repo.now c.args.peg.now c.in_ok-at.at c.in_ok-at.ensures.found c.in_ok-segments.field-0 c.in_ok-segments.ensures.by_number.exact
