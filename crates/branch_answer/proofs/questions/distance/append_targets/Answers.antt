use Rattle.std.proofs.Common.{◌≡◌, ◌∙◌, ◌++◌, ◌∷◌, [], ap, append-nil, arith, length, rules, subst, sym, take, tests}
use Rattle.std.proofs.lemmas.Iterator.Consumers.{YieldsList-at, YieldsList-end, YieldsList-turn}
use Rattle.std.proofs.lemmas.Iterator.Splits.{YieldsList-from_slice_split}
use Rattle.std.proofs.lemmas.List.{flat_map_more, length_push, take_all, take_more}
use Rattle.std.specs.List.{slice_split}
use Rattle.query_answer.specs.Query.{is_tab}
use Rattle.branch_answer.specs.KeptNew.{target_text, targets_text}
use Rattle.branch_answer.proofs.questions.distance.append_targets.Goals as goal

pub loop-field-init : goal.loop-field-init
loop-field-init c = record { seen = c.requires.seen; operatives = c.requires.operatives; lines = sym (append-nil c.args.out.now.items) }

pub loop-field-preserved : goal.loop-field-preserved
loop-field-preserved c =
    let fields = slice_split is_tab c.args.to.now in
    let old = c.args.out.now.items in
    let text = targets_text c.args.repo.now c.args.one.now c.args.counted.now in
    let one = target_text c.args.repo.now c.args.one.now c.args.counted.now in
    let count = length c.loop-field.yielded in
    let field = c.in-Some.field in
    let at = YieldsList-turn (YieldsList-at c.into_iter-field-iterator.ensures.into_iter_gives
    (YieldsList-from_slice_split _ is_tab c.args.to.now c.split-field-items.ensures.rest
    c.split-field-items.ensures.done c.split-field-items.ensures.closure (λ x b q k. search (rules, tests))))
    c.loop-field.yielded _ c.loop-field.yielded_by _ _ field c.in-Some.is c.next.ensures.steps in
    let more = ap (λ each. take count fields ++ each ∷ []) at.1 ∙ sym (take_more fields count field.now at.0) in
    record {
      seen = c.in_ok-append_target.ensures.seen;
      operatives = c.in_ok-append_target.ensures.operatives;
      lines = subst (λ all. c.append_target.new.out.items ≡ old ++ text (take all fields)) (sym (length_push c.loop-field.yielded field))
          (c.in_ok-append_target.ensures.line ∙ ap (λ lines. lines ++ one field.now) c.loop-field.invariant.lines
          ∙ flat_map_more one old (take count fields) field.now ∙ ap (λ all. old ++ text all) more);
    }

pub returns-clause-lines : goal.returns-clause-lines
returns-clause-lines c =
    let fields = slice_split is_tab c.args.to.now in
    let end = YieldsList-end (YieldsList-at c.into_iter-field-iterator.ensures.into_iter_gives
    (YieldsList-from_slice_split _ is_tab c.args.to.now c.split-field-items.ensures.rest
    c.split-field-items.ensures.done c.split-field-items.ensures.closure (λ x b q k. search (rules, tests))))
    c.loop-field.yielded _ c.loop-field.yielded_by _ _ c.in-None.is c.next.ensures.steps in
    c.loop-field.invariant.lines
    ∙ ap (λ all. c.args.out.now.items ++ targets_text c.args.repo.now c.args.one.now c.args.counted.now all)
    (take_all (length c.loop-field.yielded) fields (omega (arith, end.1)))
