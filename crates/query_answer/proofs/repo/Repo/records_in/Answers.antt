use Rattle.query_answer.proofs.Common.{◌-◌, length, map, take, drop, ap, ◌∙◌, arith, DumpValue, record_view}
use Rattle.query_answer.proofs.AnswerTexts.{IsRepo-view}
use Rattle.query_answer.proofs.RevisionRecords.{end-le-all, first-le-end, records-between}
use Rattle.query_answer.proofs.RevisionTicks.{end-at, length-ends}
use Rattle.query_answer.proofs.repo.Repo.records_in.Goals as goal

pub at-end-requires : goal.at-end-requires
at-end-requires c =
    let repo = IsRepo-view c.self.inside.dump c.args.self.now c.self.inside.index c.self.inside.map c.self.inside.ends c.self.view_is c.self.invariant in
    omega (arith, c.requires, length-ends c.args.self.now c.self.inside.index c.self.inside.map c.self.inside.ends repo)

pub split_at-requires : goal.split_at-requires
split_at-requires c =
    let dump = c.args.self.now in
    let repo = IsRepo-view c.self.inside.dump dump c.self.inside.index c.self.inside.map c.self.inside.ends c.self.view_is c.self.invariant in
    let end_is = c.at-end.ensures ∙ end-at dump c.self.inside.index c.self.inside.map c.self.inside.ends repo c.args.rev c.requires in
    let ordered = first-le-end dump c.args.rev c.start_of-first.result c.at-end.result c.requires c.start_of-first.ensures end_is in
    let few = end-le-all dump c.args.rev c.start_of-first.result c.at-end.result c.requires c.start_of-first.ensures end_is repo.dump_is in
    let all = c.records.ensures.value ∙ ap (λ (each : DumpValue). each.records) c.self.view_is in
    omega (arith, ordered, few, ap length all)

pub overflow_sub-end : goal.overflow_sub-end
overflow_sub-end c =
    let dump = c.args.self.now in
    let repo = IsRepo-view c.self.inside.dump dump c.self.inside.index c.self.inside.map c.self.inside.ends c.self.view_is c.self.invariant in
    let end_is = c.at-end.ensures ∙ end-at dump c.self.inside.index c.self.inside.map c.self.inside.ends repo c.args.rev c.requires in
    first-le-end dump c.args.rev c.start_of-first.result c.at-end.result c.requires c.start_of-first.ensures end_is

pub split_at-requires-2 : goal.split_at-requires-2
split_at-requires-2 c =
    let dump = c.args.self.now in
    let repo = IsRepo-view c.self.inside.dump dump c.self.inside.index c.self.inside.map c.self.inside.ends c.self.view_is c.self.invariant in
    let end_is = c.at-end.ensures ∙ end-at dump c.self.inside.index c.self.inside.map c.self.inside.ends repo c.args.rev c.requires in
    let few = end-le-all dump c.args.rev c.start_of-first.result c.at-end.result c.requires c.start_of-first.ensures end_is repo.dump_is in
    let all = c.records.ensures.value ∙ ap (λ (each : DumpValue). each.records) c.self.view_is in
    omega (arith, few, ap length all, c.split_at.ensures.back_len)

pub returns-clause-are : goal.returns-clause-are
returns-clause-are c =
    let dump = c.args.self.now in
    let repo = IsRepo-view c.self.inside.dump dump c.self.inside.index c.self.inside.map c.self.inside.ends c.self.view_is c.self.invariant in
    let end_is = c.at-end.ensures ∙ end-at dump c.self.inside.index c.self.inside.map c.self.inside.ends repo c.args.rev c.requires in
    let first = c.start_of-first.result in
    let end = c.at-end.result in
    let all = c.records.ensures.value ∙ ap (λ (each : DumpValue). each.records) c.self.view_is in
    ap (map record_view)
    (c.split_at-2.ensures.front ∙ ap (take (end - first)) (c.split_at.ensures.back ∙ ap (drop first) all))
    ∙ records-between dump c.args.rev first end c.requires c.start_of-first.ensures end_is
