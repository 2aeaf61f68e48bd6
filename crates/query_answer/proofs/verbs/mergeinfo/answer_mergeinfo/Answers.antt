use Rattle.query_answer.proofs.Common.{sym, ap, subst, ◌∙◌, option_map, err_from_is_err_and, components_of, tree_of, value_answer, effective_value, own_or_inherited, trees_in_bytes, HasAnswer}
use Rattle.query_answer.proofs.AnswerTexts.{HasAnswer-peg_refused, mergeinfo_answer-found}
use Rattle.query_answer.proofs.EffectiveValues.{effective_in-found, mergeinfo-found, nearest_text-target}
use Rattle.query_answer.proofs.WorkersSeen.{Reads-known, Reads-memory, Reads-peg_refused}
use Rattle.query_answer.proofs.verbs.mergeinfo.answer_mergeinfo.Goals as goal

pub returns-in_err-target : goal.returns-in_err-target
returns-in_err-target c =
    let dump = c.args.repo.now in
    let refused = c.in_err-target.ensures.refused in
    let (error, errs, same) = err_from_is_err_and c.from_residual.result c.from_residual.ensures.1 in
    record {
      answer = rw (errs, same) (HasAnswer-peg_refused dump c.args.peg.now c.in_err-target.field-0.0 refused (λ found. value_answer (effective_value (tree_of (trees_in_bytes dump) found.rev) found.path)));
      worker = rw (errs, same) (Reads-peg_refused dump c.args.memo.now _ c.args.seen.now c.requires.seen c.args.peg.now c.in_err-target.field-0.0 refused);
    }

pub nearest_value-requires-clause-nearest : goal.nearest_value-requires-clause-nearest
nearest_value-requires-clause-nearest c =
    let found = c.in_ok-target.ensures.found in
    mergeinfo-found c.args.repo.now found.peg_is.is_in.kept c.in_ok-target.target.at.path c.in_ok-target.target.at.rev c.in_ok-target.target.nearest found.nearest

pub own_or_inherited_lines-requires-clause-depth : goal.own_or_inherited_lines-requires-clause-depth
own_or_inherited_lines-requires-clause-depth c = rw c.depth_in.ensures c.in_ok-target.ensures.found.nearest.depth

pub returns-in_err-parsed-clause-worker : goal.returns-in_err-parsed-clause-worker
returns-in_err-parsed-clause-worker c =
    let (error, errs, same) = err_from_is_err_and c.from_residual-in_err-parsed.result c.from_residual-in_err-parsed.ensures.1 in
    rw (nearest_text-target c.args.repo.now c.args.peg.now c.in_ok-target.target c.in_ok-target.ensures.found, errs, same)
    (Reads-memory c.args.repo.now c.args.memo.now _ c.args.seen.now _ c.nearest_value.follows.holds-at-none.0)

pub returns : goal.returns
returns c =
    let dump = c.args.repo.now in
    let target = c.in_ok-target.target in
    let found = c.in_ok-target.ensures.found in
    let told = c.nearest_value.follows.holds-at-none in
    let lines = c.own_or_inherited_lines in
    record {
      answer = subst (λ answer. HasAnswer dump answer lines.result)
          (sym (mergeinfo_answer-found dump c.args.peg.now target.at found.peg_is
          ∙ ap value_answer (effective_in-found dump found.peg_is.is_in.kept target.at.path target.at.rev target.nearest found.nearest
          ∙ (λ i. option_map (own_or_inherited (components_of dump.names target.at.path) (sym c.depth_in.ensures i)) (sym c.in_ok-parsed.ensures.value i)))))
          lines.ensures.answer;
      worker = rw (nearest_text-target dump c.args.peg.now target found)
          (Reads-known dump c.args.memo.now _ c.args.seen.now _ told.0 lines.result lines.ensures.found (rw c.in_ok-parsed.was at told.1));
    }
