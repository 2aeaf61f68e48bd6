use Rattle.revision_ends.proofs.RevisionSums.{AreFirstEnds}
use Rattle.revision_ends.proofs.revision_ends.Given as goal

abbrev pub invariant-loop-count : goal.invariant-loop-count
invariant-loop-count l = AreFirstEnds l.dump.counts l.count-index l.end l.sums.items
