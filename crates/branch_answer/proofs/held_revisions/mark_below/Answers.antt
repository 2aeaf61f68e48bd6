use Rattle.std.proofs.Common.{◌≡◌, ◌∙◌, None, Some, ap, sym}
use Rattle.std.proofs.lemmas.Result.{on_ok_weaker}
use Rattle.merge_info.specs.CanonicalValue.{value_of}
use Rattle.query_answer.specs.Repo.{effective_view}
use Rattle.branch_answer.specs.HeldRevisions.{text_mark, value_mark}
use Rattle.branch_answer.specs.KeptExplicit.{explicit_text}
use Rattle.branch_answer.specs.declared.holding.Holding.TheVariants.{Below, Not}
use Rattle.branch_answer.proofs.HeldBelow.{text_mark-malformed, text_mark-value}
use Rattle.branch_answer.proofs.Marks.{AreMarked-none, AreMarked-same}
use Rattle.branch_answer.proofs.OwnValues.{effective_in-own}
use Rattle.branch_answer.proofs.held_revisions.mark_below.Goals as goal

pub returns-in-Malformed-clause-marked : goal.returns-in-Malformed-clause-marked
returns-in-Malformed-clause-marked c =
    let dump = c.args.repo.now in
    let old = c.args.holdings.now in
    let how = Below c.args.index in
    let text = (explicit_text dump c.args.rev c.args.path.now).1 in
    let none : value_of text ≡ None =
    sym (effective_in-own dump c.args.path.now c.args.rev c.requires.own) ∙ sym c.in_ok-effective.ensures.value ∙ ap effective_view c.in-Malformed.is in
    AreMarked-same old old (λ _. Not) (text_mark dump how text) (AreMarked-none old) (λ each among. sym (text_mark-malformed dump how text none each))

pub returns-in-Value-clause-marked : goal.returns-in-Value-clause-marked
returns-in-Value-clause-marked c =
    let dump = c.args.repo.now in
    let old = c.args.holdings.now in
    let how = Below c.args.index in
    let text = (explicit_text dump c.args.rev c.args.path.now).1 in
    let some : value_of text ≡ Some c.in-Value.value =
    sym (effective_in-own dump c.args.path.now c.args.rev c.requires.own) ∙ sym c.in_ok-effective.ensures.value ∙ ap effective_view c.in-Value.is in
    on_ok_weaker c.mark_value.result
    (λ are. AreMarked-same old c.mark_value.new.holdings (value_mark dump how how c.in-Value.value) (text_mark dump how text) are (λ each among. sym (text_mark-value dump how text c.in-Value.value some each)))
    c.mark_value.ensures.marked
