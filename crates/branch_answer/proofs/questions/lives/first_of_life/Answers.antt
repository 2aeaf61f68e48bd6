use Rattle.std.proofs.Common.{◌∙◌, arith, sym}
use Rattle.branch_answer.proofs.Livings.{began, living_before, was_there_when_set}
use Rattle.branch_answer.proofs.Origins.{IsPathIn-present, tested}
use Rattle.branch_answer.proofs.questions.lives.first_of_life.Goals as goal

pub origin-requires : goal.origin-requires
origin-requires c =
    let so = c.copies.invariant in
    let exact = c.last_set-first.ensures.exact in
    IsPathIn-present c.args.repo.now c.requires.known.kept c.args.path.now c.last_set-first.result c.requires.known.of_names
    (omega (arith, exact.within, so.within, c.requires.known.within))
    (was_there_when_set c.args.repo.now c.args.path.now c.args.rev c.copies.first so c.last_set-first.result c.last_set-first.ensures.kept exact.within)

pub returns-then-not-is_itself : goal.returns-then-not-is_itself
returns-then-not-is_itself c =
    began c.args.repo.now c.args.path.now c.args.rev c.copies.first c.copies.invariant c.last_set-first.result c.last_set-first.ensures.kept c.last_set-first.ensures.exact.within
    c.requires.known.kept c.in_ok-origin.origin c.in_ok-origin.ensures.origin c.in_ok-origin.ensures.there
    (tested c.args.path.now c.last_set-first.result c.as_ref.result c.in_ok-origin.origin c.as_ref.ensures.value ∙ sym c.is_itself.ensures ∙ c.if-not-is_itself.true)

pub copies-preserved-else-not-is_itself : goal.copies-preserved-else-not-is_itself
copies-preserved-else-not-is_itself c =
    living_before c.args.repo.now c.args.path.now c.args.rev c.copies.first c.copies.invariant c.last_set-first.result c.last_set-first.ensures.kept c.last_set-first.ensures.exact.within
    c.requires.known.kept c.in_ok-origin.origin c.in_ok-origin.ensures.origin c.in_ok-origin.ensures.there
    (tested c.args.path.now c.last_set-first.result c.as_ref.result c.in_ok-origin.origin c.as_ref.ensures.value ∙ sym c.is_itself.ensures ∙ c.if-not-is_itself.false)

pub copies-preserved-else-not-is_itself-2 : goal.copies-preserved-else-not-is_itself-2
copies-preserved-else-not-is_itself-2 c =
    living_before c.args.repo.now c.args.path.now c.args.rev c.copies.first c.copies.invariant c.last_set-first.result c.last_set-first.ensures.kept c.last_set-first.ensures.exact.within
    c.requires.known.kept c.in_ok-origin.origin c.in_ok-origin.ensures.origin c.in_ok-origin.ensures.there
    (tested c.args.path.now c.last_set-first.result c.as_ref.result c.in_ok-origin.origin c.as_ref.ensures.value ∙ sym c.is_itself.ensures ∙ c.if-not-is_itself.false)
