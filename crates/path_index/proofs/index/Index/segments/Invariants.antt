use Rattle.path_index.proofs.Common.{map, location, same_name, trees_to, segment_view}
use Rattle.path_index.proofs.Traces.{IsGathered}
use Rattle.path_index.proofs.index.Index.segments.Given as goal

abbrev pub invariant-loop-here : goal.invariant-loop-here
invariant-loop-here l =
    IsGathered (λ rev. location same_name (trees_to l.fn.self.records l.fn.rev) l.fn.path l.fn.rev rev) l.fn.rev (map segment_view l.segments.items) l.hi l.fn.self.records l.here l.at

abbrev pub decreases-loop-here : goal.decreases-loop-here
decreases-loop-here l = l.at
