use Rattle.std.proofs.Common.{◌+◌, ◌-◌, drop, length}
use Rattle.svn_dump.specs.Dump.{DumpValue}
use Rattle.query_answer.specs.declared.target.PathRev.{PathRev}
use Rattle.branch_answer.specs.KeptAncestor.{AreSegmentsOfBoth}
use Rattle.branch_answer.proofs.AncestorTold.{AreLeftOf}
use Rattle.branch_answer.proofs.questions.ancestor.newest_shared.Given as goal

abbrev pub invariant-loop-i : goal.invariant-loop-i
invariant-loop-i l =
    (dump : DumpValue) (at other_at : PathRev) → AreSegmentsOfBoth dump at other_at l.one l.other
    → AreLeftOf dump at other_at (drop l.i l.one) (drop l.j l.other)

abbrev pub decreases-loop-i : goal.decreases-loop-i
decreases-loop-i l = (length l.one - l.i) + (length l.other - l.j)
