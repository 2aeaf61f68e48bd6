use Rattle.std.proofs.Common.{◌+◌, ◌<◌, sym, ap, subst, ◌∙◌, arith}
use Rattle.std.proofs.lemmas.Bool.{iff_false}
use Rattle.std.proofs.lemmas.List.{get_or_default}
use Rattle.range_list.specs.Rangelist.{IsRun}
use Rattle.range_list.specs.declared.run.Run.{Run}
use Rattle.range_list.proofs.Pushed.{IsCanonical-first, IsCanonical-push, IsCanonical-set, HasSameNumbers-set}
use Rattle.range_list.proofs.sweep.push_run.Goals as goal
use Rattle.range_list.proofs.sweep.push_run.Goals.{else-len-gt0-via-then-len-gt0+else-continues_with, else-len-gt0-via-else-len-gt0}

-- the last run is read twice
pub returns-then-continues_with-clause-canonical : goal.returns-then-continues_with-clause-canonical
returns-then-continues_with-clause-canonical c =
    let runs = c.args.runs.now.items in
    let is_run : IsRun c.args.run = record { first = c.requires.first; ordered = c.if-run.false; last = c.requires.last } in
    let same = c.index_mut.ensures.value ∙ get_or_default runs _ c.index_mut.result.now c.index.result.now (omega arith) ∙ sym c.index.ensures in
    let next = c.continues_with.ensures.0 c.if-continues_with.true in
    IsCanonical-set runs _ c.index_mut.result.now (omega arith) c.index_mut.ensures.value c.requires.canonical c.args.run is_run
    (ap (λ (each : Run). each.hi + 1) same ∙ next.0) (ap (λ (each : Run). each.inheritable) same ∙ next.1)

pub returns-then-continues_with-clause-same : goal.returns-then-continues_with-clause-same
returns-then-continues_with-clause-same c =
    let runs = c.args.runs.now.items in
    let is_run : IsRun c.args.run = record { first = c.requires.first; ordered = c.if-run.false; last = c.requires.last } in
    let same = c.index_mut.ensures.value ∙ get_or_default runs _ c.index_mut.result.now c.index.result.now (omega arith) ∙ sym c.index.ensures in
    let next = c.continues_with.ensures.0 c.if-continues_with.true in
    HasSameNumbers-set runs _ c.index_mut.result.now (omega arith) c.index_mut.ensures.value c.requires.canonical c.args.run is_run
    (ap (λ (each : Run). each.hi + 1) same ∙ next.0) (ap (λ (each : Run). each.inheritable) same ∙ next.1)

pub returns-in_ok-push-clause-canonical : goal.returns-in_ok-push-clause-canonical
returns-in_ok-push-clause-canonical c =
    let runs = c.args.runs.now.items in
    let run = c.args.run in
    let is_run : IsRun run = record { first = c.requires.first; ordered = c.if-run.false; last = c.requires.last } in
    rw c.in_ok-push.ensures.items (elim c.else-len-gt0.branch [
      | else-len-gt0-via-then-len-gt0+else-continues_with w ↦
          let last = w.index.result.now in
          let after : last.hi < run.lo = subst (λ (each : Run). each.hi < run.lo) (sym w.index.ensures) (c.requires.above _ last (omega arith)) in
          IsCanonical-push runs _ last (omega arith) w.index.ensures c.requires.canonical run is_run after
          (λ next same_sort. iff_false w.continues_with.ensures w.if-continues_with.false (next, same_sort))
      | else-len-gt0-via-else-len-gt0 w ↦ IsCanonical-first runs run (omega arith) is_run
    ])
