use Rattle.std.proofs.Common.{◌∙◌, ◌||◌, ap, arith, not, sym}
use Rattle.branch_answer.specs.Operative.{is_operative_in}
use Rattle.branch_answer.specs.Presence.{lives_on_in}
use Rattle.branch_answer.proofs.OperativeFound.{is_operative_in-there, is_operative_in-zero}
use Rattle.branch_answer.proofs.Origins.{IsPathIn-present, lives_on-origin, tested}
use Rattle.branch_answer.proofs.operative.is_operative_at.Goals as goal

pub origin-requires : goal.origin-requires
origin-requires c =
    IsPathIn-present c.args.repo.now c.requires.known.kept c.args.path.now c.args.rev c.requires.known.of_names c.requires.known.within c.requires.there

pub returns-then-rev-eq0 : goal.returns-then-rev-eq0
returns-then-rev-eq0 c =
    sym (ap (is_operative_in c.args.repo.now c.args.path.now) c.if-rev-eq0.true ∙ is_operative_in-zero c.args.repo.now c.args.path.now)

pub returns-then-branch : goal.returns-then-branch
returns-then-branch c =
    sym (is_operative_in-there c.args.repo.now c.args.path.now c.args.rev (omega (arith, c.if-rev-eq0.false)) c.requires.there
    ∙ ap (λ named. named || not (lives_on_in c.args.repo.now c.args.path.now c.args.rev)) (sym c.in_ok-is_named.ensures ∙ c.if-branch.true))

pub returns : goal.returns
returns c =
    let dump = c.args.repo.now in
    let path = c.args.path.now in
    let rev = c.args.rev in
    sym (is_operative_in-there dump path rev (omega (arith, c.if-rev-eq0.false)) c.requires.there
    ∙ ap (λ named. named || not (lives_on_in dump path rev)) (sym c.in_ok-is_named.ensures ∙ c.if-branch.false)
    ∙ ap not (lives_on-origin dump c.requires.known.kept path rev c.in_ok-origin.origin c.in_ok-origin.ensures.origin
    ∙ tested path rev c.as_ref.result c.in_ok-origin.origin c.as_ref.ensures.value ∙ sym c.is_itself.ensures))
