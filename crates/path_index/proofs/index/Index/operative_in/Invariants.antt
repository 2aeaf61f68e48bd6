use Rattle.path_index.proofs.Common.{map, segment_view, is_in_range, Hit}
use Rattle.path_index.proofs.HitsOfSegments.{AreHitsTo}
use Rattle.path_index.proofs.index.Index.operative_in.Given as goal

abbrev pub invariant-loop-index : goal.invariant-loop-index
invariant-loop-index l =
    AreHitsTo (λ (hit : Hit). is_in_range l.range hit.rev) l.self.records (map segment_view l.segments) l.index l.hits.items
