use Rattle.query_answer.proofs.Common.{◌≡◌, ◌++◌, map, take, flat_map, line_text, segment_line, segments_in_bytes}
use Rattle.query_answer.proofs.verbs.segments.append_segments.Given as goal

abbrev pub invariant-loop-segment : goal.invariant-loop-segment
invariant-loop-segment l = l.out.items ≡ l.initial.out.items ++ flat_map line_text (map segment_line (segments_in_bytes l.names (take l.segment-index l.segments)))
