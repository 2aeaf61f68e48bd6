use Rattle.query_pool.proofs.Stealing.{joins}
use Rattle.query_pool.proofs.deque.absorb.Goals as goal

pub absorb-requires-clause-rule : goal.absorb-requires-clause-rule
absorb-requires-clause-rule c = joins _ _ _ _ c.requires.part
