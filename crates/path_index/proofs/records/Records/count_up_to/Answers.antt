use Rattle.path_index.proofs.Common.{rules, ◌≡◌, ◌≤◌, leb, true, false, subst, sym, ap, length, ◌∙◌, arith, IsNonDecreasing, IsPartitionPoint, IsPartitionedBy-leb, IsPartitionPoint-from_clause, length-map, revs_of}
use Rattle.svn_dump.specs.declared.record.NodeRecord.{NodeRecord as Record}
use Rattle.path_index.proofs.KeptRecords.{IsNonDecreasing-revs, IsPartitionPoint-revs}
use Rattle.path_index.proofs.records.Records.count_up_to.Goals as goal

pub returns : goal.returns
returns c =
    let records = c.args.self.now in
    let rev = c.args.rev in
    let all = c.deref.result.now in
    let count = c.partition_point.result in
    let revs : all ≡ revs_of records = c.deref.ensures.value ∙ c.self.invariant.of_revs ∙ ap revs_of c.self.view_is in
    let point : IsPartitionPoint (λ each. leb each rev ≡ true) (λ each. leb each rev ≡ false) all count =
    IsPartitionPoint-from_clause (λ each. leb each rev) all count c.partition_point.ensures.partitioned
    (IsPartitionedBy-leb (λ x. x) all rev (subst IsNonDecreasing (sym revs) (IsNonDecreasing-revs records c.requires))) (λ a r f' k. search rules) in
    let bound : count ≤ length records = omega (arith, c.partition_point.ensures.bound, ap length revs, length-map records (λ (each : Record). each.rev)) in
    record {
      bound = bound;
      point = IsPartitionPoint-revs records rev count bound (subst (λ xs. IsPartitionPoint (λ each. leb each rev ≡ true) (λ each. leb each rev ≡ false) xs count) revs point);
    }
