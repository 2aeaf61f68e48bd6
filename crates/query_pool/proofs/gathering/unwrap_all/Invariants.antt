use Rattle.query_pool.proofs.Common.{◌≡◌, ◌++◌, Some, length, map}
use Rattle.query_pool.proofs.gathering.unwrap_all.Given as goal

abbrev pub invariant-loop-slot : goal.invariant-loop-slot
invariant-loop-slot g l = record {
  whole : l.yielded ++ l.slot-iterator.rest.items ≡ l.fn.slots.items;
  taken : l.yielded ≡ map Some l.ordered.items;
  place : l.place ≡ length l.yielded;
}
