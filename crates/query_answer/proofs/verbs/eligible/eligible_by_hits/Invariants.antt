use Rattle.query_answer.proofs.Common.{◌≡◌, ℕ, List, Option, take, filter_map, NameId, TellsLocations, eligible_by_hit, has_in}
use Rattle.query_answer.proofs.verbs.eligible.eligible_by_hits.Given as goal

abbrev pub invariant-loop-hit : goal.invariant-loop-hit
invariant-loop-hit l =
    (located : ℕ → Option (List NameId)) → TellsLocations located l.target
    → l.found.items ≡ filter_map (eligible_by_hit (has_in l.ranges) l.segments located) (take l.hit-index l.hits)
