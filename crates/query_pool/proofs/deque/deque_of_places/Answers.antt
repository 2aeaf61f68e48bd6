use Rattle.query_pool.proofs.Stealing.{begins}
use Rattle.query_pool.proofs.deque.deque_of_places.Goals as goal

pub fifo_as-requires : goal.fifo_as-requires
fifo_as-requires c = begins
