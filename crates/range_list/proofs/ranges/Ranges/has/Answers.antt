use Rattle.std.proofs.Common.{None, Some, cond, length, ltb, sym, ap, ◌∙◌, rules}
use Rattle.std.proofs.lemmas.Bool.{le-leb, lt-leb, ltb-false, ltb-true}
use Rattle.std.proofs.lemmas.List.Sorted.{IsPartitionPoint-from_clause}
use Rattle.std.specs.Option.{is_some}
use Rattle.range_list.specs.declared.run.Run.{Run}
use Rattle.range_list.proofs.Places.{IsPartitionedBy-hi, inheritability_of-found, inheritability_of-not_found}
use Rattle.range_list.proofs.ranges.Ranges.has.Goals as goal

-- the run at the index has the number
pub returns-in-Some : goal.returns-in-Some
returns-in-Some c =
    let rev = c.args.rev in
    let runs = c.self.inside.runs.items in
    let point = rw c.deref.ensures.value at (IsPartitionPoint-from_clause (λ (each : Run). ltb each.hi rev) c.deref.result.now _ c.partition_point-index.ensures.partitioned (rw c.deref.ensures.value (IsPartitionedBy-hi runs rev c.self.invariant)) (λ a r q k. search rules)) in
    let run = c.in-Some.run'.now in
    let lookup = rw c.deref-2.ensures.value at c.in-Some.ensures.lookup in
    let found = inheritability_of-found runs rev _ c.self.invariant point run (ltb-true _ (length runs) (sym lookup.0)) lookup.1 in
    rw (← c.self.view_is) (sym (found ∙ ap (λ b. cond b (Some run.inheritable) None) (le-leb run.lo rev c.if-run-rev.true)))

-- it begins above the number
pub returns-in_default : goal.returns-in_default
returns-in_default c =
    let rev = c.args.rev in
    let runs = c.self.inside.runs.items in
    let point = rw c.deref.ensures.value at (IsPartitionPoint-from_clause (λ (each : Run). ltb each.hi rev) c.deref.result.now _ c.partition_point-index.ensures.partitioned (rw c.deref.ensures.value (IsPartitionedBy-hi runs rev c.self.invariant)) (λ a r q k. search rules)) in
    let run = c.in-Some.run'.now in
    let lookup = rw c.deref-2.ensures.value at c.in-Some.ensures.lookup in
    let found = inheritability_of-found runs rev _ c.self.invariant point run (ltb-true _ (length runs) (sym lookup.0)) lookup.1 in
    rw (← c.self.view_is) (sym (found ∙ ap (λ b. cond b (Some run.inheritable) None) (lt-leb run.lo rev c.if-run-rev.false)))

-- all runs end below the number
pub returns-in_default-2 : goal.returns-in_default-2
returns-in_default-2 c =
    let rev = c.args.rev in
    let runs = c.self.inside.runs.items in
    let point = rw c.deref.ensures.value at (IsPartitionPoint-from_clause (λ (each : Run). ltb each.hi rev) c.deref.result.now _ c.partition_point-index.ensures.partitioned (rw c.deref.ensures.value (IsPartitionedBy-hi runs rev c.self.invariant)) (λ a r q k. search rules)) in
    let lookup = rw c.deref-2.ensures.value at c.get.ensures.lookup in
    let past = ltb-false _ (length runs) (sym lookup.0 ∙ ap is_some c.in_default.is) in
    rw (← c.self.view_is) (sym (inheritability_of-not_found runs rev _ c.self.invariant point past))
