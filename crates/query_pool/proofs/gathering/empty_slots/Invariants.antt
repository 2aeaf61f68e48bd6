use Rattle.query_pool.proofs.Common.{◌≡◌, None, replicate}
use Rattle.query_pool.proofs.gathering.empty_slots.Given as goal

abbrev pub invariant-loop : goal.invariant-loop
invariant-loop g l = l.slots.items ≡ replicate l.counter None
