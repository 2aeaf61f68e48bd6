use Rattle.path_index.proofs.Common.{location, same_name, trees_to}
use Rattle.path_index.proofs.Traces.{IsTraced}
use Rattle.path_index.proofs.index.Index.locate.Given as goal

abbrev pub invariant-loop-at : goal.invariant-loop-at
invariant-loop-at l = IsTraced l.fn.rev (location same_name (trees_to l.fn.self.records l.fn.peg) l.fn.path l.fn.peg l.fn.rev) l.fn.self.records l.here l.at

abbrev pub decreases-loop-at : goal.decreases-loop-at
decreases-loop-at l = l.at
