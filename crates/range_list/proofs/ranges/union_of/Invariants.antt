use Rattle.std.proofs.Common.{ℕ, ◌<◌, ◌≤◌, length, get_or, take}
use Rattle.range_list.specs.Rangelist.{HasSameNumbers}
use Rattle.range_list.specs.Sweep.{IsSweep, runs_of}
use Rattle.range_list.specs.declared.run.Run.{Run}
use Rattle.range_list.proofs.ranges.union_of.Given as goal

abbrev pub invariant-loop-run : goal.invariant-loop-run
invariant-loop-run l = record {
  sweep : IsSweep l.sweep;
  bounded : l.sweep.cursor ≤ 2147483648;
  below : (k : ℕ) (d : Run) → l.run-index ≤ k → k < length l.run-items → l.sweep.cursor ≤ (get_or l.run-items k d).lo;
  same : HasSameNumbers (runs_of l.sweep) (take l.run-index l.run-items);
}
