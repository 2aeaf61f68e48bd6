use Rattle.query_pool.proofs.Stealing.{looks, takes}
use Rattle.query_pool.proofs.deque.take.Goals as goal

pub pop_as-requires-clause-fifo : goal.pop_as-requires-clause-fifo
pop_as-requires-clause-fifo c _ = takes _ _ c.requires.part

pub pop_as-requires-clause-empty : goal.pop_as-requires-clause-empty
pop_as-requires-clause-empty c = looks _ _
