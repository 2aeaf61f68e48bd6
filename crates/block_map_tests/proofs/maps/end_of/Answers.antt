use Rattle.std.proofs.Common.{length, ap, arith}
use Rattle.block_map.proofs.RevisionEnds.{length-ends_of}
use Rattle.block_map_tests.proofs.maps.end_of.Goals as goal

pub at-end-requires : goal.at-end-requires
at-end-requires c =
    omega (arith, c.if-counts-rev.false, ap length c.counts.ensures.value, ap length c.in_ok-ends.ensures, length-ends_of c.args.dump.now.counts)
