use Rattle.query_pool.proofs.Stealing.{puts}
use Rattle.query_pool.proofs.deque.put.Goals as goal

pub push_as-requires-clause-pushes : goal.push_as-requires-clause-pushes
push_as-requires-clause-pushes c = puts _ _ _ c.requires.alone c.requires.next
