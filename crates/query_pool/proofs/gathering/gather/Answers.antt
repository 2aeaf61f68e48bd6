use Rattle.query_pool.proofs.Common.{◌≡◌, IfErr, sym, subst, ◌∙◌, err_from_is_err_and, IfErr-weaker, IfOk-weaker, IsGatherError, StandsAtItsPlace, results_of, IsUnwrapError, Memory}
use Rattle.query_pool.proofs.Gathered.{has_each_once-no_error}
use Rattle.query_pool.proofs.Unwrapping.{HasEachOnce-unwrapped, IsGatherError-unwrap, StandsAtItsPlace-unwrapped}
use Rattle.query_pool.proofs.gathering.gather.Goals as goal

pub returns-clause-each_once : goal.returns-clause-each_once
returns-clause-each_once g c =
    let results = results_of c.args.parts.items in
    let len = sym c.in_ok-slots.slots.ok.0 ∙ c.in_ok-slots.ensures.len in
    IfOk-weaker c.unwrap_all.result _ _
    (λ ordered full. HasEachOnce-unwrapped c.args.n c.in_ok-slots.slots.items len results c.in_ok-slots.ensures.holds ordered.items full)
    c.unwrap_all.ensures.ok

pub returns-clause-by_place : goal.returns-clause-by_place
returns-clause-by_place g c =
    let results = results_of c.args.parts.items in
    let len = sym c.in_ok-slots.slots.ok.0 ∙ c.in_ok-slots.ensures.len in
    IfOk-weaker c.unwrap_all.result _ (λ ordered. StandsAtItsPlace ordered.items results)
    (λ ordered full. StandsAtItsPlace-unwrapped c.args.n c.in_ok-slots.slots.items len results c.in_ok-slots.ensures.holds ordered.items full)
    c.unwrap_all.ensures.ok

pub returns-clause-error : goal.returns-clause-error
returns-clause-error g c =
    let results = results_of c.args.parts.items in
    let len = sym c.in_ok-slots.slots.ok.0 ∙ c.in_ok-slots.ensures.len in
    IfErr-weaker c.unwrap_all.result (IsUnwrapError c.in_ok-slots.slots.items) (IsGatherError c.args.n results)
    (IsGatherError-unwrap c.args.n c.in_ok-slots.slots.items len results c.in_ok-slots.ensures.holds)
    c.unwrap_all.ensures.error

pub returns-clause-whole : goal.returns-clause-whole
returns-clause-whole g c once =
    let results = results_of c.args.parts.items in
    IfErr-weaker c.unwrap_all.result (IsGatherError c.args.n results) (λ error. error ≡ Memory)
    (has_each_once-no_error c.args.n results once)
    (returns-clause-error g c)

pub returns-in_err-slots-clause-whole : goal.returns-in_err-slots-clause-whole
returns-in_err-slots-clause-whole g c once =
    let results = results_of c.args.parts.items in
    let (error, errs, same) = err_from_is_err_and c.from_residual.result c.from_residual.ensures.1 in
    let is = subst (IsGatherError c.args.n results) (sym same) c.in_err-slots.ensures.error in
    subst (λ r. IfErr r (λ error. error ≡ Memory)) (sym errs) (has_each_once-no_error c.args.n results once error is)
