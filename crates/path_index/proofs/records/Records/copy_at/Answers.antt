use Rattle.path_index.proofs.Common.{rules, ◌≡◌, ◌≢◌, ◌<◌, ltb, true, false, true≢false, Option, None, Some, is_some, refl, length, get_or, sym, ap, subst, ◌∙◌, arith, IsPartitionPoint, lt-ltb, get_or_default, IsPartitionedBy-ltb, IsPartitionPoint-from_clause, AreCopies, Copied}
use Rattle.path_index.proofs.KeptRecords.{IsNonDecreasingBy-indices, no_copy_at}
use Rattle.path_index.proofs.records.Records.copy_at.Goals as goal
use Rattle.path_index.proofs.records.Records.copy_at.Goals.{in_default-via-in-Some+else-copied-index, in_default-via-in_default}

not_none : {X : Type 0} (o : Option X) → is_some o ≡ true → ((x : X) → o ≡ Some x → ⊥) → ⊥
not_none None some never = absurd (true≢false (sym some))
not_none (Some x) some never = never x refl

pub returns-in_default : goal.returns-in_default
returns-in_default c =
    let records = c.args.self.now in
    let index = c.args.index in
    let copies = c.deref.result.now in
    let number = c.partition_point-number.result in
    let are : AreCopies records copies = subst (λ all. AreCopies all copies) c.self.view_is (subst (AreCopies c.self.inside.all.items) (sym c.deref.ensures.value) c.self.invariant.of_copies) in
    let point : IsPartitionPoint (λ each. ltb each.index index ≡ true) (λ each. ltb each.index index ≡ false) copies number =
    IsPartitionPoint-from_clause (λ each. ltb each.index index) copies number c.partition_point-number.ensures.partitioned
    (IsPartitionedBy-ltb (λ each. each.index) copies index (IsNonDecreasingBy-indices are)) (λ a r f' k. search rules) in
    let same : c.deref-2.result.now ≡ copies = c.deref-2.ensures.value ∙ sym c.deref.ensures.value in
    let other : (d : Copied) → number < length copies → (get_or copies number d).index ≢ index = λ d within.
    elim c.in_default.branch [
      | in_default-via-in-Some+else-copied-index w ↦
          λ is. w.if-copied-index.false (ap (λ (each : Copied). each.index) (w.in-Some.ensures.lookup.1 ∙ ap (λ all. get_or all number w.in-Some.copied.now) same ∙ get_or_default copies number w.in-Some.copied.now d within) ∙ is)
      | in_default-via-in_default w ↦
          λ is. not_none c.get.result (c.get.ensures.lookup.0 ∙ lt-ltb number (length c.deref-2.result.now) (omega (arith, within, ap length same))) w.in_default.not-Some
    ] in
    no_copy_at index number are point other
