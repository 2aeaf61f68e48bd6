use Rattle.query_answer.proofs.Common.{[], ◌++◌, Global, append-nil, ap, get_or, sym, ◌∙◌, cons_option, Hit, merged_revision, has_in, merged_by_hit}
use Rattle.std.proofs.Common.{Vec}
use Rattle.std.specs.Prelude.{option_map}
use Rattle.query_answer.specs.declared.answers.MergedRevision.{MergedRevision}
use Rattle.query_answer.proofs.OperativeLocations.{filter_map_more}
use Rattle.query_answer.proofs.verbs.merged.merged_by_hits.Goals as goal
use Rattle.query_answer.proofs.verbs.merged.merged_by_hits.Goals.{in-Some+in_ok-push, in_default}

pub loop-hit-preserved : goal.loop-hit-preserved
loop-hit-preserved c =
    let ranges = has_in c.args.ranges.now in
    let hits = c.args.hits.now in
    let hit : Hit = get_or hits c.loop-hit.hit-index (record { rev = 0; segment = 0 }) in
    let rev = hit.rev in
    let shown = λ (v : Vec MergedRevision Global). v.items in
    let before = c.loop-hit.found.items in
    let more = filter_map_more (merged_by_hit ranges) hits c.loop-hit.hit-index (record { rev = 0; segment = 0 }) c.loop-hit-test.true before c.match-has.found.items c.loop-hit.invariant in
    elim c.match-has.branch [
      | in-Some+in_ok-push w ↦
          more (ap shown w.found-is ∙ w.in_ok-push.ensures.items
          ∙ ap (λ found. before ++ cons_option (option_map (merged_revision rev) found) []) (sym w.in-Some.is ∙ c.has.ensures))
      | in_default w ↦
          more (ap shown w.found-is ∙ sym (append-nil before)
          ∙ ap (λ found. before ++ cons_option (option_map (merged_revision rev) found) []) (sym w.in_default.is ∙ c.has.ensures))
    ]
