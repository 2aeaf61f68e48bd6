use Rattle.query_answer.proofs.Common.{◌<◌, ◌≤◌, length, ap, sym, ◌∙◌, arith, same_name, history_view, trees_of, tree_of_past, IsNearestOrNone, revision_in, own_mergeinfo_at, IfOk-weaker, nearest, IsNearestIn}
use Rattle.query_answer.proofs.AnswerTexts.{IsRepo-view}
use Rattle.query_answer.proofs.InBytes.{length-trees}
use Rattle.query_answer.proofs.NearestMergeinfo.{IsNearestIn-found, nearest-no_entries}
use Rattle.query_answer.proofs.RevisionTicks.{IsEndIn-at, end-within, length-ends}
use Rattle.query_answer.proofs.repo.Repo.nearest.Goals as goal

pub returns-then-rev-counts-clause-found : goal.returns-then-rev-counts-clause-found
returns-then-rev-counts-clause-found c =
    let dump = c.args.self.now in
    let repo = IsRepo-view c.self.inside.dump dump c.self.inside.index c.self.inside.map c.self.inside.ends c.self.view_is c.self.invariant in
    let counts = c.counts.ensures.value ∙ ap (λ each. each.counts) c.self.view_is in
    let past : length (trees_of same_name (history_view dump)) ≤ c.args.rev = omega (arith, c.if-rev-counts.true, ap length counts, length-trees dump repo.dump_is) in
    record {
      nearest_is = sym (ap (λ tree. nearest same_name tree c.args.path.now) (tree_of_past (trees_of same_name (history_view dump)) c.args.rev past)
          ∙ nearest-no_entries c.args.path.now);
      depth = omega arith;
    }

pub at-requires : goal.at-requires
at-requires c =
    let all = length-ends c.self.inside.dump c.self.inside.index c.self.inside.map c.self.inside.ends c.self.invariant in
    omega (arith, c.if-rev-counts.false, ap length c.counts.ensures.value, all)

pub nearest-requires-clause-within : goal.nearest-requires-clause-within
nearest-requires-clause-within c =
    end-within c.self.inside.dump c.self.inside.index c.self.inside.map c.self.inside.ends c.self.invariant c.args.rev c.at.result
    (IsEndIn-at c.self.inside.dump c.self.inside.index c.self.inside.map c.self.inside.ends c.self.invariant c.args.rev
    (omega (arith, c.if-rev-counts.false, ap length c.counts.ensures.value)) c.at.result c.at.ensures)

pub returns-clause-found : goal.returns-clause-found
returns-clause-found c =
    let dump = c.args.self.now in
    let repo = IsRepo-view c.self.inside.dump dump c.self.inside.index c.self.inside.map c.self.inside.ends c.self.view_is c.self.invariant in
    let counts = c.counts.ensures.value ∙ ap (λ each. each.counts) c.self.view_is in
    let within : c.args.rev < length dump.counts = omega (arith, c.if-rev-counts.false, ap length counts) in
    let end = IsEndIn-at dump c.self.inside.index c.self.inside.map c.self.inside.ends repo c.args.rev within c.at.result c.at.ensures in
    IfOk-weaker c.nearest.result (IsNearestOrNone (own_mergeinfo_at same_name (revision_in dump c.args.rev)) c.args.path.now) (IsNearestIn dump c.args.path.now c.args.rev)
    (IsNearestIn-found dump c.args.path.now c.args.rev) (c.nearest.ensures.of_revision dump c.args.rev repo.map_is.first end)
