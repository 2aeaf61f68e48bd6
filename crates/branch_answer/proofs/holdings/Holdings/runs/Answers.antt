use Rattle.std.proofs.Common.{◌∙◌, ◌+◌, ◌<◌, ◌++◌, [], All, ap, arith, get_or, length, subst, sym}
use Rattle.std.proofs.lemmas.List.Elements.{All-append, All-nil}
use Rattle.range_list.specs.Rangelist.{IsRun}
use Rattle.branch_answer.specs.KeptHolding.{holding_view}
use Rattle.branch_answer.specs.KeptNew.{held_run}
use Rattle.branch_answer.specs.declared.holding.Holding.TheVariants.{Not}
use Rattle.branch_answer.proofs.HeldRuns.{held_runs_from-more, held_runs_from-none}
use Rattle.branch_answer.proofs.holdings.Holdings.runs.Goals as goal

pub loop-index-init : goal.loop-index-init
loop-index-init c = record {
  runs = subst (All IsRun) (sym c.new-runs.ensures.items) (All-nil IsRun);
  held = c.new-runs.ensures.items ∙ sym (held_runs_from-none c.args.self.now.first);
}

pub loop-index-preserved : goal.loop-index-preserved
loop-index-preserved c =
    let first = c.args.self.now.first in
    let how = c.args.self.now.how.items in
    let i = c.loop-index.index in
    let one = held_run (first + i) (holding_view [] (get_or how i Not)) in
    let within : i < length how = omega (arith, c.loop-index-test.true, ap length c.deref-how-items.ensures.value) in
    let pushed = c.in_ok-push_held.ensures.held ∙ ap (λ all. c.loop-index.runs.items ++ held_run (first + i) (holding_view [] (get_or all i Not))) c.deref-how-items.ensures.value in
    let is_run = subst (λ all. All IsRun (held_run (first + i) (holding_view [] (get_or all i Not)))) c.deref-how-items.ensures.value c.in_ok-push_held.ensures.run in
    record {
      runs = subst (All IsRun) (sym pushed) (All-append IsRun c.loop-index.runs.items one c.loop-index.invariant.runs is_run);
      held = pushed ∙ ap (λ runs. runs ++ one) c.loop-index.invariant.held ∙ sym (held_runs_from-more first how i within);
    }
