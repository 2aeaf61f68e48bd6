use Rattle.query_answer.proofs.Common.{◌≡◌, ◌<◌, ◌≤◌, ◌∷◌, ◌++◌, List, None, IsFalse, length, ap, ◌∙◌, arith, same_name, NameId, revision_in, own_mergeinfo_at, IfOk-weaker}
use Rattle.query_answer.specs.Standings.{HasNoMergeinfoBelow}
use Rattle.query_answer.proofs.AnswerTexts.{IsRepo-view}
use Rattle.query_answer.proofs.RevisionTicks.{IsEndIn-at, end-within, length-ends}
use Rattle.query_answer.proofs.StandingsInBytes.{HasNoMergeinfoBelow-none, HasNoMergeinfoBelow-past}
use Rattle.query_answer.proofs.repo.Repo.may_have_mergeinfo_below.Goals as goal

pub returns-then-rev-counts : goal.returns-then-rev-counts
returns-then-rev-counts c =
    let dump = c.args.self.now in
    let repo = IsRepo-view c.self.inside.dump dump c.self.inside.index c.self.inside.map c.self.inside.ends c.self.view_is c.self.invariant in
    let counts = c.counts.ensures.value ∙ ap (λ each. each.counts) c.self.view_is in
    let past : length dump.counts ≤ c.args.rev = omega (arith, c.if-rev-counts.true, ap length counts) in
    λ none. HasNoMergeinfoBelow-past dump repo.dump_is c.args.path.now c.args.rev past

pub at-requires : goal.at-requires
at-requires c =
    let all = length-ends c.self.inside.dump c.self.inside.index c.self.inside.map c.self.inside.ends c.self.invariant in
    omega (arith, c.if-rev-counts.false, ap length c.counts.ensures.value, all)

pub may_have_mergeinfo_below-requires-clause-within : goal.may_have_mergeinfo_below-requires-clause-within
may_have_mergeinfo_below-requires-clause-within c =
    end-within c.self.inside.dump c.self.inside.index c.self.inside.map c.self.inside.ends c.self.invariant c.args.rev c.at.result
    (IsEndIn-at c.self.inside.dump c.self.inside.index c.self.inside.map c.self.inside.ends c.self.invariant c.args.rev
    (omega (arith, c.if-rev-counts.false, ap length c.counts.ensures.value)) c.at.result c.at.ensures)

pub returns : goal.returns
returns c =
    let dump = c.args.self.now in
    let path = c.args.path.now in
    let repo = IsRepo-view c.self.inside.dump dump c.self.inside.index c.self.inside.map c.self.inside.ends c.self.view_is c.self.invariant in
    let counts = c.counts.ensures.value ∙ ap (λ each. each.counts) c.self.view_is in
    let within : c.args.rev < length dump.counts = omega (arith, c.if-rev-counts.false, ap length counts) in
    let end = IsEndIn-at dump c.self.inside.index c.self.inside.map c.self.inside.ends repo c.args.rev within c.at.result c.at.ensures in
    IfOk-weaker c.may_have_mergeinfo_below.result
    (λ may. IsFalse may → (name : NameId) (rest : List NameId) → own_mergeinfo_at same_name (revision_in dump c.args.rev) (path ++ name ∷ rest) ≡ None)
    (λ may. IsFalse may → HasNoMergeinfoBelow dump path c.args.rev)
    (λ may none is. HasNoMergeinfoBelow-none dump repo.dump_is path c.args.rev (none is))
    (c.may_have_mergeinfo_below.ensures.of_revision dump c.args.rev repo.map_is.first end)
