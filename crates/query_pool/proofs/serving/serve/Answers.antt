use Rattle.query_pool.proofs.Common.{◌≡◌, ◌<◌, ◌∙◌, All, ap, subst, IfOk-weaker, worker_view, HasEachOnce, most_workers, results_of, HandsOver, Tally}
use Rattle.query_pool.proofs.Recording.{HasEachOnce-taken, given-taken}
use Rattle.query_pool.proofs.serving.serve.Goals as goal

pub take_all-requires-clause-places : goal.take_all-requires-clause-places
take_all-requires-clause-places g c κs within place put =
    let all = ap (λ (pass : Tally). pass.puts) c.in_ok-owner.ensures.view in
    c.requires.places place (subst (λ n. place < n) (c.in_ok-caller.ensures.continues.serves.puts ∙ all) put)

pub take_all-requires-clause-gate : goal.take_all-requires-clause-gate
take_all-requires-clause-gate g c κs within place put =
    let all = ap (λ (pass : Tally). pass.puts) c.in_ok-owner.ensures.view in
    c.requires.gate place (subst (λ n. place < n) (c.in_ok-caller.ensures.continues.serves.puts ∙ all) put)

pub returns-clause-each_once : goal.returns-clause-each_once
returns-clause-each_once g c =
    let gives = g.J.Job.gives c.args.job.now in
    let first = c.in_ok-owner.ensures.view in
    let with = c.in_ok-caller.ensures.continues.serves in
    let last = c.in_ok-caller-2.ensures.continues.serves in
    let caller = c.in_ok-caller-2.caller in
    let pass = worker_view caller.owner in
    let puts : pass.puts ≡ c.args.n = last.puts ∙ with.puts ∙ ap (λ (pass : Tally). pass.puts) first in
    let parts : pass.parts ≡ most_workers = last.parts ∙ with.parts ∙ ap (λ (pass : Tally). pass.parts) first in
    IfOk-weaker c.into_parts.result (λ parts. HandsOver caller parts.items) (λ parts. HasEachOnce c.args.n (results_of parts.items))
    (λ given hands. HasEachOnce-taken gives caller given.items hands last.records c.args.n puts (c.in_ok-caller-2.ensures.empty parts)) c.into_parts.ensures.hands

pub returns-clause-gives : goal.returns-clause-gives
returns-clause-gives g c =
    let gives = g.J.Job.gives c.args.job.now in
    let last = c.in_ok-caller-2.ensures.continues.serves in
    let caller = c.in_ok-caller-2.caller in
    IfOk-weaker c.into_parts.result (λ parts. HandsOver caller parts.items) (λ parts. All (λ each. gives each.0 each.1) (results_of parts.items))
    (λ parts hands. given-taken gives caller parts.items hands last.records) c.into_parts.ensures.hands
