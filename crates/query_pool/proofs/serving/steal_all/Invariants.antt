use Rattle.query_pool.proofs.Common.{IsPassOf, stealer_deque, view, Serves}
use Rattle.query_pool.proofs.serving.steal_all.Given as goal

abbrev pub invariant-loop : goal.invariant-loop
invariant-loop g l = record {
  pass : IsPassOf (stealer_deque l.thief) l.pass;
  lawful : g.J.Job.lawful l.job l.progress.state;
  serves : Serves (g.J.Job.gives l.job) (view l.fn.pass) (view l.pass) l.progress.done.items;
}
