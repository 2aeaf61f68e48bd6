use Rattle.path_index.proofs.Common.{◌≡◌, ap, length, arith, length-map}
use Rattle.svn_dump.specs.declared.record.NodeRecord.{NodeRecord as Record}
use Rattle.path_index.proofs.KeptRecords.{AreKept-append}
use Rattle.path_index.proofs.records.Records.append.Goals as goal

pub invariant_of-result : goal.invariant_of-result
invariant_of-result c =
    let one = c.self.inside in
    let count : c.len-count.result ≡ length one.all.items =
    omega (arith, c.len-count.ensures, ap length c.self.invariant.of_revs, length-map one.all.items (λ (each : Record). each.rev)) in
    rw (c.join.ensures, c.in_ok-append_revs.ensures, c.in_ok-append_moved.ensures, count) (AreKept-append c.self.invariant c.later.invariant)
