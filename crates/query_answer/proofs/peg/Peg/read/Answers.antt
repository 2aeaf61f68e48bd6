use Rattle.query_answer.proofs.Common.{Some, None, both_ways}
use Rattle.query_answer.proofs.Queries.{peg_value_of-cut, peg_value_of-dot, peg_value_of-uncut}
use Rattle.query_answer.proofs.peg.Peg.read.Goals as goal

pub returns-in_err-path : goal.returns-in_err-path
returns-in_err-path c = rw c.from_residual.ensures (peg_value_of-uncut _ c.in_err-path.ensures)

pub returns-then-has_dot : goal.returns-then-has_dot
returns-then-has_dot c = peg_value_of-dot _ _ _ c.in_ok-path.ensures (c.has_dot.ensures.0 c.if-has_dot.true)

pub returns-in_err-rev : goal.returns-in_err-rev
returns-in_err-rev c =
    rw c.from_residual-in_err-rev.ensures (peg_value_of-cut _ _ _ c.in_ok-path.ensures (λ dot. both_ways _ c.if-has_dot.false (c.has_dot.ensures.1 dot)) None c.in_err-rev.ensures)

pub returns : goal.returns
returns c =
    peg_value_of-cut _ _ _ c.in_ok-path.ensures (λ dot. both_ways _ c.if-has_dot.false (c.has_dot.ensures.1 dot)) (Some c.in_ok-rev.field-0) c.in_ok-rev.ensures
