use Rattle.std.proofs.Common.{arith, subst}
use Rattle.svnhist.specs.Bundle.{AreLines}
use Rattle.svnhist.proofs.Bundles.{behind_first, behind_second, behind_third}
use Rattle.svnhist.proofs.bundle_reader.bundle.Goals as goal

pub returns-in_err-workers-clause-none : goal.returns-in_err-workers-clause-none
returns-in_err-workers-clause-none c =
    let (digits, whole, number) = c.in_ok-block.ensures.found in
    rw c.from_residual-in_err-workers.ensures (λ value parts.
    let first = behind_first _ value parts digits _ _ whole number in
    c.in_err-workers.ensures.none _ _ _ first parts.workers)

pub returns-then-workers-eq0-clause-none : goal.returns-then-workers-eq0-clause-none
returns-then-workers-eq0-clause-none c =
    let (digits, whole, number) = c.in_ok-block.ensures.found in
    let (others, whole_again, workers) = c.in_ok-workers.ensures.found in
    λ value parts.
    let first = behind_first _ value parts digits _ _ whole number in
    let second = behind_second _ value parts others _ _ _ first whole_again workers in
    absurd (omega (arith, second.0, parts.some_worker))

pub returns-in_err-count-clause-none : goal.returns-in_err-count-clause-none
returns-in_err-count-clause-none c =
    let (digits, whole, number) = c.in_ok-block.ensures.found in
    let (others, whole_again, workers) = c.in_ok-workers.ensures.found in
    rw c.from_residual-in_err-count.ensures (λ value parts.
    let first = behind_first _ value parts digits _ _ whole number in
    let second = behind_second _ value parts others _ _ _ first whole_again workers in
    c.in_err-count.ensures.none _ _ _ second.1 parts.few)

pub returns-in_err-queries-clause-none : goal.returns-in_err-queries-clause-none
returns-in_err-queries-clause-none c =
    let (digits, whole, number) = c.in_ok-block.ensures.found in
    let (others, whole_again, workers) = c.in_ok-workers.ensures.found in
    let (last, whole_last, count) = c.in_ok-count.ensures.found in
    rw c.from_residual-in_err-queries.ensures (λ value parts.
    let first = behind_first _ value parts digits _ _ whole number in
    let second = behind_second _ value parts others _ _ _ first whole_again workers in
    let third = behind_third _ value parts last _ _ _ second.1 whole_last count in
    c.in_err-queries.ensures.none _ _ third.1 (subst (λ n. AreLines n value.queries) third.0 parts.lines))
