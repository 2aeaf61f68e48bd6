use Rattle.std.proofs.Common.{arith}
use Rattle.par_scan.specs.Weightless.{no_weight}
use Rattle.block_map_tests.proofs.joins.total_map.Goals as goal

pub total_of-requires-clause-light : goal.total_of-requires-clause-light
total_of-requires-clause-light g c κs within = omega (arith, no_weight c.in_ok-maps.field-0.items)
