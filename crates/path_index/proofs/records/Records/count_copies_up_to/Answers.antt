use Rattle.path_index.proofs.Common.{rules, ◌≡◌, ltb, true, false, subst, sym, IsPartitionPoint, IsPartitionedBy-ltb, IsPartitionPoint-from_clause, AreCopies}
use Rattle.path_index.proofs.CopiesInOrder.{count-copies_up_to}
use Rattle.path_index.proofs.KeptRecords.{IsNonDecreasingBy-indices}
use Rattle.path_index.proofs.records.Records.count_copies_up_to.Goals as goal

pub returns : goal.returns
returns c =
    let records = c.args.self.now in
    let copies = c.deref.result.now in
    let count = c.count_up_to-count.result in
    let number = c.partition_point.result in
    let are : AreCopies records copies = subst (λ all. AreCopies all copies) c.self.view_is (subst (AreCopies c.self.inside.all.items) (sym c.deref.ensures.value) c.self.invariant.of_copies) in
    let point : IsPartitionPoint (λ each. ltb each.index count ≡ true) (λ each. ltb each.index count ≡ false) copies number =
    IsPartitionPoint-from_clause (λ each. ltb each.index count) copies number c.partition_point.ensures.partitioned
    (IsPartitionedBy-ltb (λ each. each.index) copies count (IsNonDecreasingBy-indices are)) (λ a r f' k. search rules) in
    count-copies_up_to are c.args.rev count number c.count_up_to-count.ensures c.partition_point.ensures.bound point
