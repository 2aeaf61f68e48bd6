use Rattle.query_answer.proofs.Common.{ℕ, ◌<◌, ◌≤◌, arith, get_or, length, ltb, sym, ap, subst, ◌∙◌, inl, inr, rules, cases_lt, ltb-false, ltb-true}
use Rattle.std.proofs.lemmas.List.Sorted.{IsPartitionPoint-from_clause}
use Rattle.std.specs.Option.{is_some}
use Rattle.path_index.specs.declared.segment.Segment.{Segment}
use Rattle.query_answer.proofs.PathSegments.{above-segments, begins_above, below-segments, path-segment}
use Rattle.query_answer.proofs.locations.path_in.Goals as goal
use Rattle.query_answer.proofs.locations.path_in.Goals.{in_default-via-in-Some+else-rev-segment, in_default-via-in_default}

pub returns-in-Some : goal.returns-in-Some
returns-in-Some c = λ located tells.
    let rev = c.args.rev in
    let segments = c.args.segments.now in
    let found = c.partition_point-found.result in
    let segment = c.in-Some.segment.now in
    let lookup = c.in-Some.ensures.lookup in
    let within = ltb-true found (length segments) (sym lookup.0) in
    let point = IsPartitionPoint-from_clause (λ (each : Segment). ltb rev each.lo) segments found c.partition_point-found.ensures.partitioned (begins_above located rev segments tells.bound tells.below) (λ a r q k. search rules) in
    let from : segment.lo ≤ rev = subst (λ (each : Segment). each.lo ≤ rev) (sym lookup.1) (ltb-false rev (get_or segments found segment).lo (point.1 found segment (omega arith) within)) in
    c.as_ref.ensures.value ∙ sym (path-segment located rev segments tells.bound found segment tells.below within lookup.1 from c.if-rev-segment.true)

pub returns-in_default : goal.returns-in_default
returns-in_default c = λ located tells.
    let rev = c.args.rev in
    let segments = c.args.segments.now in
    let found = c.partition_point-found.result in
    let point = IsPartitionPoint-from_clause (λ (each : Segment). ltb rev each.lo) segments found c.partition_point-found.ensures.partitioned (begins_above located rev segments tells.bound tells.below) (λ a r q k. search rules) in
    let before = λ (k : ℕ) (d : Segment) (less : k < found). ltb-true rev (get_or segments k d).lo (point.0 k d (omega arith) less) in
    elim c.in_default.branch [
      | in_default-via-in-Some+else-rev-segment w ↦
          let lookup = w.in-Some.ensures.lookup in
          let within = ltb-true found (length segments) (sym lookup.0) in
          sym (tells.above rev (above-segments located rev segments tells.bound found w.in-Some.segment.now tells.below before within lookup.1 (omega (arith, w.if-rev-segment.false))))
      | in_default-via-in_default w ↦
          let past = ltb-false found (length segments) (sym c.get.ensures.lookup.0 ∙ ap is_some w.in_default.is) in
          elim (cases_lt rev tells.bound) [
            | inl under ↦ sym (below-segments located rev segments tells.bound tells.below (λ k d less. before k d (omega (arith, less, past))) under)
            | inr up ↦ sym (tells.above rev up)
          ]
    ]
