use Rattle.path_index.proofs.Common.{length}
use Rattle.path_index.proofs.NumbersOfNodes.{IsPushed}
use Rattle.path_index.proofs.numbers.Numbers.push_hits.Given as goal

abbrev pub invariant-loop-last : goal.invariant-loop-last
invariant-loop-last l = IsPushed l.self l.segment l.node l.lo l.hi l.fn.hits.items l.rest l.hits.items

abbrev pub decreases-loop-last : goal.decreases-loop-last
decreases-loop-last l = length l.rest
