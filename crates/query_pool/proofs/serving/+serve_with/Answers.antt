use Rattle.query_pool.proofs.Common.{rules, ℕ, ◌-◌, ◌<◌, ◌∙◌, ap, sym, subst, arith, view, worker_view, Continues, IsReady, results_in, Records, Serves, Tally}
use Rattle.query_pool.specs.declared.caller.Caller.{Caller}
use Rattle.query_pool.proofs.Recording.{Serves-joined}
use Rattle.query_pool.proofs.serving.+serve_with.Goals as goal

pub join-stolen-requires-after_bounds : goal.join-stolen-requires-after_bounds
join-stolen-requires-after_bounds g t c κs within =
    let ready = c.requires.ready in
    let split = c.split-pass.ensures in
    let more : 1 < (worker_view c.args.caller.owner).parts = omega (arith, c.requires.parts, c.if-thieves-eq0.false) in
    let own = ap (λ (pass : Tally). pass.puts) split.left in
    let theirs = ap (λ (pass : Tally). pass.puts) split.right in
    let after : Caller g.row.J-State.Denot g.row.J-Out.Denot = record c.args.caller { owner = c.split-pass.new.owner } in
    let ready_again : IsReady (g.J.Job.lawful c.args.job.now) (g.J.Job.gives c.args.job.now) after = record {
      fifo = split.same.1 ∙ ready.fifo;
      lawful = ready.lawful;
      records = subst (λ taken. Records (g.J.Job.gives c.args.job.now) taken (results_in c.args.caller)) (sym (ap (λ (pass : Tally). pass.taken) split.left)) ready.records;
    } in
    let fewer : c.args.thieves - 1 < (worker_view c.split-pass.new.owner).parts = omega (arith, c.requires.parts, more, ap (λ (pass : Tally). pass.parts) split.left) in
    let places : (place : ℕ) → place < (worker_view c.split-pass.new.owner).puts → g.J.Job.has c.args.job.now place = λ place put. c.requires.places place (subst (λ n. place < n) own put) in
    let gate : (place : ℕ) → place < (worker_view c.split-pass.new.owner).puts → g.G.Gate.watches c.args.gate.now place = λ place put. c.requires.gate place (subst (λ n. place < n) own put) in (
      (
        (
          search rules,
          search rules,
          search rules,
          search rules,
          (split.pass.0 ∙ ap (λ d. d.0) c.requires.deque, split.pass.1 ∙ ap (λ d. d.1) c.requires.deque, split.pass.2, split.pass.3),
          omega (arith, ap (λ (pass : Tally). pass.parts) split.right),
          ap (λ (pass : Tally). pass.taken) split.right,
          λ place put. c.requires.places place (subst (λ n. place < n) theirs put),
          λ place put. c.requires.gate place (subst (λ n. place < n) theirs put),
        ),
        (search rules, search rules, search rules, search rules, search rules),
      ),
      (
        search rules,
        (
          (λ _ lives. lives),
          (
            (λ _ lives. lives),
            (
              (λ _ lives. lives),
              (
                (λ _ lives. lives),
                (
                  (λ _ lives. lives),
                  (
                    (search rules, search rules, search rules, search rules, search rules, ready_again, split.same.0 ∙ c.requires.deque, fewer, places, gate),
                    (search rules, search rules, search rules, search rules, search rules),
                  ),
                ),
              ),
            ),
          ),
        ),
      ),
    )

pub returns-clause-continues : goal.returns-clause-continues
returns-clause-continues g t c =
    let gives = g.J.Job.gives c.args.job.now in
    let split = c.split-pass.ensures in
    let more : 1 < (worker_view c.args.caller.owner).parts = omega (arith, c.requires.parts, c.if-thieves-eq0.false) in
    let before : Caller g.row.J-State.Denot g.row.J-Out.Denot = record c.args.caller { owner = c.split-pass.new.owner } in
    let stolen : Serves gives (view c.split-pass.result) (view c.in_ok-pass.pass) c.in_ok-pass.part.done.items = search rules in
    let others : Continues (g.J.Job.lawful c.args.job.now) gives before c.in_ok-caller.caller = search rules in
    let last = c.absorb.ensures in
    let served = Serves-joined gives (worker_view c.args.caller.owner) (worker_view c.split-pass.new.owner) (worker_view c.in_ok-caller.caller.owner) (view c.split-pass.result) (view c.in_ok-pass.pass)
    (worker_view c.absorb.new.owner) c.in_ok-caller.caller.progress.done.items c.in_ok-caller.caller.parts.items c.in_ok-pass.part more split.left others.serves split.right stolen last.joined in
    record {
      deque = (
        last.same.0 ∙ others.deque.0 ∙ split.same.0,
        last.same.1 ∙ others.deque.1 ∙ split.same.1,
        last.same.2 ∙ others.deque.2 ∙ split.same.2,
        omega (arith, last.same.3, others.deque.3, split.same.3),
      );
      lawful = others.lawful;
      serves = rw c.in_ok-push.ensures.items served;
    }
