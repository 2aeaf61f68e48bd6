use Rattle.query_pool.proofs.Stealing.{splits}
use Rattle.query_pool.proofs.deque.split.Goals as goal

pub another-requires : goal.another-requires
another-requires c = splits _ _ c.requires.parts
