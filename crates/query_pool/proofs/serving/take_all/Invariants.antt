use Rattle.query_pool.proofs.Common.{◌≡◌, Continues}
use Rattle.query_pool.proofs.serving.take_all.Given as goal

abbrev pub invariant-loop : goal.invariant-loop
invariant-loop g l = record {
  continues : Continues (g.J.Job.lawful l.job) (g.J.Job.gives l.job) l.fn.caller l.caller;
  parts : l.caller.parts ≡ l.fn.caller.parts;
}
