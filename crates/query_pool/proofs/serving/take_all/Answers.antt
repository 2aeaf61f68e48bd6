use Rattle.query_pool.proofs.Common.{◌∙◌, arith, worker_view, results_of}
use Rattle.query_pool.proofs.Recording.{Serves-one}
use Rattle.query_pool.proofs.serving.take_all.Goals as goal

pub loop-preserved : goal.loop-preserved
loop-preserved g c =
    let before = c.loop.invariant.continues in
    let taken = c.in-Some-take in
    let same = taken.ensures.same in
    let served = c.in_ok-serve_place-in-Some-take.ensures in
    record {
      continues = record {
        deque = (same.0 ∙ before.deque.0, same.1 ∙ before.deque.1, same.2 ∙ before.deque.2, omega (arith, same.3, before.deque.3));
        lawful = served.state;
        serves = Serves-one (g.J.Job.gives c.args.job.now) (worker_view c.args.caller.owner) (worker_view c.loop.caller.owner) (worker_view c.take.new.owner) c.loop.caller.progress.done.items
            (results_of c.loop.caller.parts.items) c.serve_place.new.progress.done.items taken.place before.serves taken.ensures.some served.done;
      };
      parts = c.loop.invariant.parts;
    }
