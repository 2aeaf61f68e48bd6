use Rattle.merge_info.proofs.Common.{◌≡◌, ◌≤◌, ◌-◌, length, drop, stays_before}
use Rattle.merge_info.proofs.source_path.stays_before.Given as goal

abbrev pub invariant-loop-i : goal.invariant-loop-i
invariant-loop-i l = record {
  within : l.i ≤ length l.path;
  within_next : l.i ≤ length l.next;
  same : stays_before l.path l.next ≡ stays_before (drop l.i l.path) (drop l.i l.next);
}

abbrev pub decreases-loop-i : goal.decreases-loop-i
decreases-loop-i l = length l.path - l.i
