use Rattle.query_answer.proofs.Common.{◌≡◌, ◌+◌, sum, take, ap, arith, ◌∙◌}
use Rattle.query_answer.proofs.AnswerTexts.{IsRepo-view}
use Rattle.query_answer.proofs.RevisionTicks.{end-at, length-ends}
use Rattle.query_answer.proofs.repo.Repo.start_of.Goals as goal

pub at-requires : goal.at-requires
at-requires c =
    let repo = IsRepo-view c.self.inside.dump c.args.self.now c.self.inside.index c.self.inside.map c.self.inside.ends c.self.view_is c.self.invariant in
    let all = length-ends c.args.self.now c.self.inside.index c.self.inside.map c.self.inside.ends repo in
    let below = c.in-Some.ensures in
    omega (arith, c.requires, all, below)

pub returns-in-Some : goal.returns-in-Some
returns-in-Some c =
    let dump = c.args.self.now in
    let repo = IsRepo-view c.self.inside.dump dump c.self.inside.index c.self.inside.map c.self.inside.ends c.self.view_is c.self.invariant in
    let next : c.in-Some.before + 1 ≡ c.args.rev = omega (arith, c.in-Some.ensures) in
    c.at.ensures ∙ end-at dump c.self.inside.index c.self.inside.map c.self.inside.ends repo c.in-Some.before (omega (arith, c.requires, next))
    ∙ ap (λ n. sum (take n dump.counts)) next
