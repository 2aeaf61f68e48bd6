use Rattle.query_answer.proofs.Common.{◌≡◌, map, take, held_ranges_in, lent_ranges}
use Rattle.query_answer.proofs.verbs.source.SourceRanges.of.Given as goal

abbrev pub invariant-loop-segment : goal.invariant-loop-segment
invariant-loop-segment l = map lent_ranges l.by_segment.items ≡ map (held_ranges_in l.names l.held) (take l.segment-index l.segments)
