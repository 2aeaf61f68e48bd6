use Rattle.std.proofs.Common.{◌≡◌, ◌∙◌, ◌++◌, ◌∷◌, [], ap, append-nil, arith, length, rules, subst, sym, take, tests}
use Rattle.std.proofs.lemmas.Iterator.Consumers.{YieldsList-at, YieldsList-end, YieldsList-turn}
use Rattle.std.proofs.lemmas.Iterator.Splits.{YieldsList-from_slice_split}
use Rattle.std.proofs.lemmas.List.{length_push, take_all, take_more}
use Rattle.std.specs.List.{slice_split}
use Rattle.svn_text.specs.Line.{is_newline}
use Rattle.branch_answer.proofs.TextLines.{spaced_text, spaced_text-written}
use Rattle.branch_answer.proofs.questions.explicit.append_text.Goals as goal

pub loop-line-init : goal.loop-line-init
loop-line-init c = sym (append-nil c.args.out.now.items)

pub loop-line-preserved : goal.loop-line-preserved
loop-line-preserved c =
    let lines = slice_split is_newline c.args.text.now in
    let old = c.args.out.now.items in
    let count = length c.loop-line.yielded in
    let line = c.in-Some.line in
    let at = YieldsList-turn (YieldsList-at c.into_iter-line-iterator.ensures.into_iter_gives
    (YieldsList-from_slice_split _ is_newline c.args.text.now c.split-line-items.ensures.rest
    c.split-line-items.ensures.done c.split-line-items.ensures.closure (λ x b q k. search (rules, tests))))
    c.loop-line.yielded _ c.loop-line.yielded_by _ _ line c.in-Some.is c.next.ensures.steps in
    let more = ap (λ each. take count lines ++ each ∷ []) at.1 ∙ sym (take_more lines count line.now at.0) in
    let written = c.in_ok-push-2.ensures.items
    ∙ ap (λ text. text ++ 10 ∷ []) (c.in_ok-extend_from_slice.ensures.items
    ∙ ap (λ text. text ++ line.now) (c.in_ok-push.ensures.items ∙ ap (λ text. text ++ 32 ∷ []) c.loop-line.invariant)) in
    subst (λ all. c.push-in-loop-line.new.self.items ≡ old ++ spaced_text (take all lines)) (sym (length_push c.loop-line.yielded line))
    (written ∙ spaced_text-written old (take count lines) line.now ∙ ap (λ all. old ++ spaced_text all) more)

pub returns : goal.returns
returns c =
    let lines = slice_split is_newline c.args.text.now in
    let end = YieldsList-end (YieldsList-at c.into_iter-line-iterator.ensures.into_iter_gives
    (YieldsList-from_slice_split _ is_newline c.args.text.now c.split-line-items.ensures.rest
    c.split-line-items.ensures.done c.split-line-items.ensures.closure (λ x b q k. search (rules, tests))))
    c.loop-line.yielded _ c.loop-line.yielded_by _ _ c.in-None.is c.next.ensures.steps in
    c.loop-line.invariant
    ∙ ap (λ all. c.args.out.now.items ++ spaced_text all) (take_all (length c.loop-line.yielded) lines (omega (arith, end.1)))
