use Rattle.query_answer.proofs.Common.{IfOk-weaker, AreHitsInRange, AreHitsIn}
use Rattle.query_answer.proofs.AnswerTexts.{IsRepo-view, IsWhole-IsRepo}
use Rattle.query_answer.proofs.PathSegments.{AreHitsIn-kept}
use Rattle.query_answer.proofs.repo.Repo.operative.Goals as goal

pub operative_in-requires : goal.operative_in-requires
operative_in-requires c =
    IsWhole-IsRepo c.self.inside.dump c.self.inside.index c.self.inside.map c.self.inside.ends c.self.invariant

pub returns : goal.returns
returns c =
    let repo = IsRepo-view c.self.inside.dump c.args.self.now c.self.inside.index c.self.inside.map c.self.inside.ends c.self.view_is c.self.invariant in
    let segments = c.args.segments.now in
    let range = c.args.range in
    IfOk-weaker c.operative_in.result (λ hits. AreHitsInRange c.self.inside.index segments range hits.items)
    (λ hits. AreHitsIn c.args.self.now segments range hits.items)
    (λ hits. AreHitsIn-kept c.args.self.now c.self.inside.index c.self.inside.map c.self.inside.ends repo segments range
    hits.items)
    c.operative_in.ensures
