use Rattle.query_answer.proofs.Common.{◌≡◌, ◌++◌, map, take, flat_map, line_text, hit_line, segments_in_bytes}
use Rattle.query_answer.proofs.verbs.log.append_log.Given as goal

abbrev pub invariant-loop-hit : goal.invariant-loop-hit
invariant-loop-hit l = l.out.items ≡ l.initial.out.items ++ flat_map line_text (map (hit_line (segments_in_bytes l.names l.segments)) (take l.hit-index l.hits))
