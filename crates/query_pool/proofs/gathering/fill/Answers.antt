use Rattle.query_pool.proofs.Common.{ℕ, ◌∷◌, [], ◌++◌, IfErr, sym, subst, ap, ◌∙◌, append_assoc, err_from_is_err_and, IsAddError}
use Rattle.query_pool.proofs.Adding.{Adds-more, IsAddError-more}
use Rattle.query_pool.proofs.gathering.fill.Goals as goal

pub loop-place-preserved : goal.loop-place-preserved
loop-place-preserved g c =
    let before = c.loop-place.yielded in
    let each : ℕ × g.row.Out.Denot = (c.in-Some.place, c.in-Some.found) in
    record {
      whole = append_assoc before (each ∷ []) c.next.new.self.rest.items ∙ ap (λ more. before ++ more) (sym c.in-Some.ensures.steps.0) ∙ c.loop-place.invariant.whole;
      added = Adds-more c.args.slots.now.items before c.loop-place.slots.items c.loop-place.invariant.added (each ∷ []) c.put.new.slots.items c.in_ok-put.ensures.ok;
    }

pub returns-in_err-put-clause-error : goal.returns-in_err-put-clause-error
returns-in_err-put-clause-error g c =
    let before = c.loop-place.yielded in
    let each : ℕ × g.row.Out.Denot = (c.in-Some.place, c.in-Some.found) in
    let rest = c.next.new.self.rest.items in
    let whole = ap (λ more. before ++ more) (sym c.in-Some.ensures.steps.0) ∙ c.loop-place.invariant.whole in
    let told = IsAddError-more c.args.slots.now.items before c.loop-place.slots.items c.loop-place.invariant.added (each ∷ []) c.in_err-put.field-0.0 c.in_err-put.ensures.error rest c.args.done.items whole in
    let (error, errs, same) = err_from_is_err_and c.from_residual.result c.from_residual.ensures.1 in
    subst (λ r. IfErr r (IsAddError c.args.slots.now.items c.args.done.items)) (sym errs) (subst (IsAddError c.args.slots.now.items c.args.done.items) (sym same) told)
