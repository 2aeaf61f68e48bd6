use Rattle.query_answer.proofs.Common.{ℕ, [], ◌++◌, Global, Some, None, append-nil, ap, get_or, if◌then◌else◌, sym, ◌∙◌, cons_option, Hit, eligible_by_hit, has_in}
use Rattle.std.proofs.Common.{Vec}
use Rattle.query_answer.proofs.OperativeLocations.{filter_map_more}
use Rattle.query_answer.proofs.verbs.eligible.eligible_by_hits.Goals as goal
use Rattle.query_answer.proofs.verbs.eligible.eligible_by_hits.Goals.{then-is_eligible+in_ok-push, else-is_eligible}

pub loop-hit-preserved : goal.loop-hit-preserved
loop-hit-preserved c = λ located tells.
    let ranges = has_in c.args.ranges.now in
    let hits = c.args.hits.now in
    let hit : Hit = get_or hits c.loop-hit.hit-index (record { rev = 0; segment = 0 }) in
    let rev = hit.rev in
    let shown = λ (v : Vec ℕ Global). v.items in
    let before = c.loop-hit.found.items in
    let so = c.is_eligible.ensures located tells in
    let more = filter_map_more (eligible_by_hit ranges c.args.segments.now located) hits c.loop-hit.hit-index (record { rev = 0; segment = 0 }) c.loop-hit-test.true before c.if-is_eligible.found.items
    (c.loop-hit.invariant located tells) in
    elim c.if-is_eligible.branch [
      | then-is_eligible+in_ok-push w ↦
          more (ap shown w.found-is ∙ w.in_ok-push.ensures.items
          ∙ ap (λ b. before ++ cons_option (if b then Some rev else None) []) (sym w.if-is_eligible.true ∙ so))
      | else-is_eligible w ↦
          more (ap shown w.found-is ∙ sym (append-nil before)
          ∙ ap (λ b. before ++ cons_option (if b then Some rev else None) []) (sym w.if-is_eligible.false ∙ so))
    ]
