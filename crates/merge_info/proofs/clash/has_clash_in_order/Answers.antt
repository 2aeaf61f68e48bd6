use Rattle.merge_info.proofs.Clashes.{has_clash-scan}
use Rattle.merge_info.proofs.clash.has_clash_in_order.Goals as goal

pub loop-run-init : goal.loop-run-init
loop-run-init c = has_clash-scan c.args.runs.now c.requires.runs c.requires.rising
