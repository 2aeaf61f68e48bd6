use Rattle.par_scan.proofs.Chains.{no_weight-IsChain}
use Rattle.par_scan_tests.proofs.meetings.items.Goals as goal

pub returns : goal.returns
returns c = no_weight-IsChain c.loop-number.items.items
