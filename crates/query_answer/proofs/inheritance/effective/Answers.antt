use Rattle.query_answer.proofs.Common.{sym, ◌∙◌, option_map, IfOk-weaker, components_of, own_or_inherited}
use Rattle.query_answer.proofs.EffectiveValues.{effective_in-found, mergeinfo-found, nearest_text-found}
use Rattle.query_answer.proofs.WorkersSeen.{OnOk-from}
use Rattle.query_answer.proofs.inheritance.effective.Goals as goal

pub nearest_value-requires-clause-nearest : goal.nearest_value-requires-clause-nearest
nearest_value-requires-clause-nearest c =
    mergeinfo-found c.args.repo.now c.in_ok-nearest.ensures.kept c.args.path.now c.args.rev c.in_ok-nearest.nearest c.in_ok-nearest.ensures.found

pub own_or_inherited-requires-clause-depth : goal.own_or_inherited-requires-clause-depth
own_or_inherited-requires-clause-depth c = rw c.depth_in.ensures c.in_ok-nearest.ensures.found.depth

pub returns-in_err-parsed-clause-learns : goal.returns-in_err-parsed-clause-learns
returns-in_err-parsed-clause-learns c =
    rw (nearest_text-found c.args.repo.now c.in_ok-nearest.ensures.kept c.args.path.now c.args.rev c.in_ok-nearest.nearest c.in_ok-nearest.ensures.found)
    c.nearest_value.follows.holds-at-none.0.learns

pub returns : goal.returns
returns c =
    let dump = c.args.repo.now in
    let path = c.args.path.now in
    let kept = c.in_ok-nearest.ensures.kept in
    let near = c.in_ok-nearest.ensures.found in
    let told = c.nearest_value.follows.holds-at-none in
    let text = nearest_text-found dump kept path c.args.rev c.in_ok-nearest.nearest near in
    record {
      value = IfOk-weaker c.own_or_inherited.result _ _
          (λ value by_text. by_text
          ∙ (λ i. option_map (own_or_inherited (components_of dump.names path) (c.depth_in.ensures i)) (c.in_ok-parsed.ensures.value i))
          ∙ sym (effective_in-found dump kept path c.args.rev c.in_ok-nearest.nearest near)) c.own_or_inherited.ensures;
      seen = told.0.seen;
      learns = rw text told.0.learns;
      knows = OnOk-from c.own_or_inherited.result (rw text (rw c.in_ok-parsed.was at told.1));
    }
