use Rattle.query_pool.proofs.Common.{◌≡◌, IsPassOf, stealer_deque, view}
use Rattle.query_pool.proofs.deque.steal.Given as goal

abbrev pub invariant-loop : goal.invariant-loop
invariant-loop g l = record {
  pass : IsPassOf (stealer_deque l.thief) l.pass;
  unchanged : view l.pass ≡ view l.fn.pass;
}
