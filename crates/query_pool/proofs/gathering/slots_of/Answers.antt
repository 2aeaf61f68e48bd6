use Rattle.query_pool.proofs.Common.{◌∷◌, [], ◌++◌, None, IfErr, length, sym, subst, ap, ◌∙◌, append_assoc, flat_map_more, length-replicate, err_from_is_err_and, IsGatherError, results_of, Holds}
use Rattle.query_pool.proofs.Adding.{Holds-none, results_of_cut}
use Rattle.query_pool.proofs.gathering.slots_of.Goals as goal

pub loop-part-init : goal.loop-part-init
loop-part-init g c = record {
  whole = c.into_iter-part-iterator.ensures.into_iter_gives.0;
  len = ap length c.in_ok-slots.ensures ∙ length-replicate c.args.n None;
  holds = subst (λ slots. Holds slots []) (sym c.in_ok-slots.ensures) (Holds-none c.args.n);
}

pub loop-part-preserved : goal.loop-part-preserved
loop-part-preserved g c =
    let before = c.loop-part.yielded in
    let held = c.in_ok-fill.ensures.ok.holds (results_of before) c.loop-part.invariant.holds in
    record {
      whole = append_assoc before (c.in-Some.part ∷ []) c.next.new.self.rest.items ∙ ap (λ more. before ++ more) (sym c.in-Some.ensures.steps.0) ∙ c.loop-part.invariant.whole;
      len = c.in_ok-fill.ensures.ok.len ∙ c.loop-part.invariant.len;
      holds = subst (Holds c.fill.new.slots.items) (flat_map_more (λ part. part.done.items) [] before c.in-Some.part) held;
    }

pub returns-in_err-fill-clause-error : goal.returns-in_err-fill-clause-error
returns-in_err-fill-clause-error g c =
    let before = c.loop-part.yielded in
    let rest = c.next.new.self.rest.items in
    let results = results_of c.args.parts.items in
    let whole = ap (λ more. before ++ more) (sym c.in-Some.ensures.steps.0) ∙ c.loop-part.invariant.whole in
    let told = c.in_err-fill.ensures.error (results_of before) (results_of rest) c.loop-part.invariant.holds in
    let fault = subst (λ n. IsGatherError n results c.in_err-fill.field-0.0) c.loop-part.invariant.len
    (subst (λ given. IsGatherError (length c.loop-part.slots.items) given c.in_err-fill.field-0.0) (results_of_cut before c.in-Some.part rest c.args.parts.items whole) told) in
    let (error, errs, same) = err_from_is_err_and c.from_residual-in_err-fill.result c.from_residual-in_err-fill.ensures.1 in
    subst (λ r. IfErr r (IsGatherError c.args.n results)) (sym errs) (subst (IsGatherError c.args.n results) (sym same) fault)
