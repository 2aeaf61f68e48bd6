use Rattle.query_answer.proofs.Common.{err_from_is_err_and}
use Rattle.query_answer.proofs.AnswerTexts.{IsPairRefused-source, IsPairRefused-target, with_pair_in-found}
use Rattle.query_answer.proofs.verbs.pair.Pair.find.Goals as goal

pub returns-in_err-source-clause-refused : goal.returns-in_err-source-clause-refused
returns-in_err-source-clause-refused c =
    let (error, errs, same) = err_from_is_err_and c.from_residual.result c.from_residual.ensures.1 in
    rw (errs, same) (IsPairRefused-source c.args.repo.now c.args.source.now c.args.target.now c.in_err-source.field-0.0 c.in_err-source.ensures.refused)

pub returns-in_err-target-clause-refused : goal.returns-in_err-target-clause-refused
returns-in_err-target-clause-refused c =
    let (error, errs, same) = err_from_is_err_and c.from_residual-in_err-target.result c.from_residual-in_err-target.ensures.1 in
    rw (errs, same)
    (IsPairRefused-target c.args.repo.now c.args.source.now c.args.target.now c.in_ok-source.source c.in_ok-source.ensures.found c.in_err-target.field-0.0 c.in_err-target.ensures.refused)

pub returns-clause-found : goal.returns-clause-found
returns-clause-found c =
    let found = c.in_ok-source.ensures.found in
    let other = c.in_ok-target.ensures.found in
    record {
      source_is = found;
      target_is = other;
      answered = with_pair_in-found c.args.repo.now c.args.source.now c.args.target.now c.in_ok-source.source found c.in_ok-target.target.at other.peg_is;
    }
