use Rattle.query_pool.proofs.Common.{◌≡◌, ◌++◌, Adds}
use Rattle.query_pool.proofs.gathering.fill.Given as goal

abbrev pub invariant-loop-place : goal.invariant-loop-place
invariant-loop-place g l = record {
  whole : l.yielded ++ l.place-iterator.rest.items ≡ l.fn.done.items;
  added : Adds l.fn.slots.items l.yielded l.slots.items;
}
