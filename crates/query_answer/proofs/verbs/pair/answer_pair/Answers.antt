use Rattle.query_answer.proofs.Common.{err_from_is_err_and, chosen_by}
use Rattle.query_answer.proofs.AnswerTexts.{HasAnswer-held, HasAnswer-mergeinfo_refused, HasAnswer-pair_refused}
use Rattle.query_answer.proofs.EffectiveValues.{nearest_text-target}
use Rattle.query_answer.proofs.WorkersSeen.{Reads-known, Reads-pair_refused}
use Rattle.query_answer.proofs.verbs.pair.answer_pair.Goals as goal

pub returns-in_err-pair : goal.returns-in_err-pair
returns-in_err-pair c =
    let dump = c.args.repo.now in
    let (error, errs, same) = err_from_is_err_and c.from_residual.result c.from_residual.ensures.1 in
    record {
      answer = rw (errs, same) (HasAnswer-pair_refused dump c.args.source.now c.args.target.now c.in_err-pair.field-0.0 c.in_err-pair.ensures.refused (chosen_by dump c.args.choice c.args.range));
      worker = rw (errs, same) (Reads-pair_refused dump c.args.memo.now _ c.args.seen.now c.requires.seen c.args.source.now c.args.target.now c.in_err-pair.field-0.0 c.in_err-pair.ensures.refused);
    }

pub returns-in_err-held : goal.returns-in_err-held
returns-in_err-held c =
    let dump = c.args.repo.now in
    let found = c.in_ok-pair.ensures.found in
    let (error, errs, same) = err_from_is_err_and c.from_residual-in_err-held.result c.from_residual-in_err-held.ensures.1 in
    record {
      answer = rw (errs, same) (HasAnswer-mergeinfo_refused dump c.args.source.now c.args.target.now c.in_ok-pair.pair found (chosen_by dump c.args.choice c.args.range) c.in_err-held.field-0.0 c.in_err-held.ensures.refused);
      worker = rw (nearest_text-target dump c.args.target.now c.in_ok-pair.pair.target found.target_is, errs, same) (rw c.in_err-held.was at c.target_mergeinfo.follows.holds-at-none);
    }

pub returns : goal.returns
returns c =
    let dump = c.args.repo.now in
    let pair = c.in_ok-pair.pair in
    let found = c.in_ok-pair.ensures.found in
    let told = rw c.in_ok-held.was at c.target_mergeinfo.follows.holds-at-none in
    let revisions = c.chosen_revisions in
    record {
      answer = HasAnswer-held dump c.args.source.now c.args.target.now pair found (chosen_by dump c.args.choice c.args.range) c.in_ok-held.held c.in_ok-held.ensures.value revisions.result revisions.ensures.answer;
      worker = rw (nearest_text-target dump c.args.target.now pair.target found.target_is)
          (Reads-known dump c.args.memo.now _ c.args.seen.now _ told.0 revisions.result revisions.ensures.found told.1);
    }
