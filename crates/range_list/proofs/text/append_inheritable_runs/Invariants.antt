use Rattle.std.proofs.Common.{take}
use Rattle.range_list.proofs.Texts.{AreWritten}
use Rattle.range_list.proofs.text.append_inheritable_runs.Given as goal

abbrev pub invariant-loop-run : goal.invariant-loop-run
invariant-loop-run l = AreWritten l.fn.out.items (take l.run-index l.runs) l.out.items l.follows
