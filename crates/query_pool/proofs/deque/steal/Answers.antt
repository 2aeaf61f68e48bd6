use Rattle.query_pool.proofs.Stealing.{takes}
use Rattle.query_pool.proofs.deque.steal.Goals as goal

pub steal_as-requires-clause-takes : goal.steal_as-requires-clause-takes
steal_as-requires-clause-takes g c = takes _ _ (rw c.loop.invariant.unchanged c.requires.part)
