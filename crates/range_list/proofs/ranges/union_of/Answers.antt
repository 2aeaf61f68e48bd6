use Rattle.std.proofs.Common.{◌≡◌, ℕ, ◌∷◌, [], ◌++◌, get_or, take, false, sym, ap, subst, arith, rules}
use Rattle.std.proofs.lemmas.List.{get_or_default, take_all, take_more}
use Rattle.std.proofs.lemmas.List.Sorted.{All-permutation, IsNonDecreasingBy-from_sort_by_key}
use Rattle.std.specs.List.Sorted.{IsNonDecreasingBy, IsPermutation}
use Rattle.range_list.specs.Rangelist.{HasSameNumbers, IsRun}
use Rattle.range_list.specs.Sweep.{runs_of}
use Rattle.range_list.specs.declared.run.Run.{Run}
use Rattle.range_list.proofs.Maximal.{canonical_runs-only}
use Rattle.range_list.proofs.Same.{HasSameNumbers-append, HasSameNumbers-permutation, HasSameNumbers-refl, HasSameNumbers-sym, HasSameNumbers-trans}
use Rattle.range_list.proofs.ranges.union_of.Goals as goal

abbrev first_of : Run → ℕ
first_of run = run.lo

pub take-requires-clause-run : goal.take-requires-clause-run
take-requires-clause-run c =
    let sorted = c.deref-run-items.result.now in
    let all = All-permutation IsRun c.args.runs.items sorted (subst (IsPermutation c.args.runs.items) (sym c.deref-run-items.ensures.value) c.in_ok-sort_by_key.ensures.permutation) c.requires in
    all c.loop-run.run-index _ c.loop-run-test.true

pub loop-run-preserved : goal.loop-run-preserved
loop-run-preserved c =
    let sorted = c.deref-run-items.result.now in
    let i = c.loop-run.run-index in
    let none : Run = record { lo = 0; hi = 0; inheritable = false } in
    let run = get_or sorted i none in
    let all = All-permutation IsRun c.args.runs.items sorted (subst (IsPermutation c.args.runs.items) (sym c.deref-run-items.ensures.value) c.in_ok-sort_by_key.ensures.permutation) c.requires in
    let is_run = all i none c.loop-run-test.true in
    let rising = subst (IsNonDecreasingBy first_of) (sym c.deref-run-items.ensures.value) (IsNonDecreasingBy-from_sort_by_key first_of c.sort_by_key.new.self.items c.in_ok-sort_by_key.ensures.sorted (λ a r q k. search rules)) in
    let same_at : (d : Run) → run.lo ≡ (get_or sorted i d).lo = λ d. ap first_of (get_or_default sorted i none d c.loop-run-test.true) in
    let took = HasSameNumbers-append (runs_of c.loop-run.sweep) (take i sorted) (run ∷ []) (run ∷ []) c.loop-run.invariant.same (HasSameNumbers-refl (run ∷ [])) in
    record {
      sweep = c.in_ok-take.ensures.sweep;
      bounded = omega (arith, c.in_ok-take.ensures.cursor, is_run.ordered, is_run.last);
      below = λ k d after within. omega (arith, c.in_ok-take.ensures.cursor, same_at d, rising i k d (omega arith) within);
      same = HasSameNumbers-trans _ (runs_of c.loop-run.sweep ++ run ∷ []) _ c.in_ok-take.ensures.same
          (subst (HasSameNumbers (runs_of c.loop-run.sweep ++ run ∷ [])) (sym (take_more sorted i none c.loop-run-test.true)) took);
    }

pub returns-clause-same : goal.returns-clause-same
returns-clause-same c =
    let sorted = c.deref-run-items.result.now in
    let moved = HasSameNumbers-permutation c.args.runs.items sorted (subst (IsPermutation c.args.runs.items) (sym c.deref-run-items.ensures.value) c.in_ok-sort_by_key.ensures.permutation) in
    let all : take c.loop-run.run-index sorted ≡ sorted = take_all _ sorted c.loop-run-test.false in
    HasSameNumbers-trans _ (runs_of c.loop-run.sweep) _ c.in_ok-finish.ensures.same
    (HasSameNumbers-trans _ sorted _ (subst (HasSameNumbers (runs_of c.loop-run.sweep)) all c.loop-run.invariant.same) (HasSameNumbers-sym c.args.runs.items sorted moved))

pub returns-clause-exact : goal.returns-clause-exact
returns-clause-exact c = canonical_runs-only c.args.runs.items _ c.requires c.in_ok-finish.ensures.canonical (returns-clause-same c)
