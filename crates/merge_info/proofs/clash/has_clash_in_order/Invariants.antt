use Rattle.merge_info.proofs.Common.{◌≡◌, drop, has_clash}
use Rattle.merge_info.proofs.Clashes.{scan}
use Rattle.merge_info.proofs.clash.has_clash_in_order.Given as goal

abbrev pub invariant-loop-run : goal.invariant-loop-run
invariant-loop-run l = has_clash l.runs ≡ scan l.inheritable_to l.non_inheritable_to (drop l.run-index l.runs)
