use Rattle.query_answer.proofs.Common.{Some, refl, ap, subst, sym, ◌∙◌, option_map, Err, IsPathOf, components_of, with_value, rest_of, own_or_below, text_found, Refused}
use Rattle.value_memo.specs.Parsed.{parsed_view}
use Rattle.query_answer.specs.declared.status.Status.TheVariants as status
use Rattle.query_answer.proofs.AnswerTexts.{IsAnswer-Refused}
use Rattle.query_answer.proofs.EffectiveValues.{effective_in-below, mergeinfo-found}
use Rattle.query_answer.proofs.PegsFound.{IsPathOf-rest}
use Rattle.query_answer.proofs.WorkersSeen.{Reads-known}
use Rattle.query_answer.proofs.verbs.pair.target_mergeinfo.Goals as goal

pub nearest_value-requires-clause-nearest : goal.nearest_value-requires-clause-nearest
nearest_value-requires-clause-nearest c =
    let at = c.args.target.now.at in
    mergeinfo-found c.args.repo.now c.requires.at.kept at.path at.rev c.args.target.now.nearest c.requires.nearest

pub returns-in-Good : goal.returns-in-Good
returns-in-Good c =
    let dump = c.args.repo.now in
    let target = c.args.target.now in (
      (refl, λ _. tt, rw c.in_ok-value.was at c.nearest_value.follows.holds-at-none),
      record {
        after = tt;
        held = c.new.ensures.held dump.names (subst (IsPathOf dump.names) (sym c.rest.ensures) (IsPathOf-rest dump.names target c.requires.at.of_names));
        value = effective_in-below dump c.requires.at.kept target.at.path target.at.rev target.nearest c.requires.nearest
            ∙ ap (option_map (own_or_below (components_of dump.names (rest_of target)))) (sym c.in_ok-value.ensures.value ∙ ap parsed_view c.in-Good.is)
            ∙ ap (λ rest. Some (own_or_below (components_of dump.names rest) c.in-Good.value.now)) (sym c.rest.ensures)
            ∙ ap Some (sym (c.new.ensures.value dump.names));
        refused = tt;
      },
    )

pub returns-in-Malformed : goal.returns-in-Malformed
returns-in-Malformed c =
    let dump = c.args.repo.now in
    let target = c.args.target.now in
    let told = rw c.in_ok-value.was at c.nearest_value.follows.holds-at-none in
    let none = effective_in-below dump c.requires.at.kept target.at.path target.at.rev target.nearest c.requires.nearest
    ∙ ap (option_map (own_or_below (components_of dump.names (rest_of target)))) (sym c.in_ok-value.ensures.value ∙ ap parsed_view c.in-Malformed.is) in (
      (refl, λ _. tt, Reads-known dump c.args.memo.now (text_found dump target.nearest) c.args.seen.now _ told.0 (Err (Refused status.MalformedMergeinfo)) refl told.1),
      record {
        after = tt;
        held = tt;
        value = tt;
        refused = λ answer. IsAnswer-Refused dump.names _ status.MalformedMergeinfo (ap (λ value. with_value value answer) none);
      },
    )
