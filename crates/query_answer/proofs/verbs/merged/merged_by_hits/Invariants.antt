use Rattle.query_answer.proofs.Common.{◌≡◌, take, filter_map, has_in, merged_by_hit}
use Rattle.query_answer.proofs.verbs.merged.merged_by_hits.Given as goal

abbrev pub invariant-loop-hit : goal.invariant-loop-hit
invariant-loop-hit l = l.found.items ≡ filter_map (merged_by_hit (has_in l.ranges)) (take l.hit-index l.hits)
