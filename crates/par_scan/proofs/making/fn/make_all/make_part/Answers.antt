use Rattle.std.proofs.Common.{arith}
use Rattle.par_scan.proofs.making.fn.make_all.make_part.Goals as goal

pub overflow_mul-start : goal.overflow_mul-start
overflow_mul-start g c = record { fits = omega (arith, c.requires.0, c.requires.1) }
