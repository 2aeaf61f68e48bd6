use Rattle.query_answer.proofs.Queries.{range_of-uncut}
use Rattle.query_answer.proofs.range.read_range.Goals as goal

pub returns-in_err-lo : goal.returns-in_err-lo
returns-in_err-lo c = rw c.from_residual.ensures (range_of-uncut _ c.in_err-lo.ensures)
