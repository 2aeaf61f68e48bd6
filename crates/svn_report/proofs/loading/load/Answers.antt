use Rattle.svn_report.proofs.Common.{arith, inr}
use Rattle.svn_report.proofs.loading.load.Goals as goal

pub returns-clause-unread : goal.returns-clause-unread
returns-clause-unread g c =
    λ _. record { no_end = c.loop.invariant.ends; why = inr (omega (arith, c.loop.invariant.calls, c.loop-test.false)) }
