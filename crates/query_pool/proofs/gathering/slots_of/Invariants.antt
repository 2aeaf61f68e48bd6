use Rattle.query_pool.proofs.Common.{◌≡◌, ◌++◌, length, results_of, Holds}
use Rattle.query_pool.proofs.gathering.slots_of.Given as goal

abbrev pub invariant-loop-part : goal.invariant-loop-part
invariant-loop-part g l = record {
  whole : l.yielded ++ l.part-iterator.rest.items ≡ l.fn.parts.items;
  len : length l.slots.items ≡ l.fn.n;
  holds : Holds l.slots.items (results_of l.yielded);
}
