use Rattle.query_pool.proofs.Common.{view}
use Rattle.query_pool.proofs.Recording.{Serves-steal}
use Rattle.query_pool.proofs.serving.steal_all.Goals as goal

pub loop-preserved : goal.loop-preserved
loop-preserved g c =
    let stolen = c.in-Some-steal in
    let served = c.in_ok-serve_place-in-Some-steal.ensures in
    record {
      pass = stolen.ensures.pass;
      lawful = served.state;
      serves = Serves-steal (g.J.Job.gives c.args.job.now) (view c.args.pass) (view c.loop.pass) (view c.steal.new.pass) c.loop.progress.done.items c.serve_place.new.progress.done.items stolen.place
          c.loop.invariant.serves stolen.ensures.some served.done;
    }
