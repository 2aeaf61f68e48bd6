use Rattle.std.proofs.Common.{◌≡◌, ◌∙◌, ◌-◌, ◌<◌, ◌≤◌, ◌&&◌, Some, length, sym, ap, ap₂, subst, arith}
use Rattle.std.specs.Prelude.{slice_get}
use Rattle.std.proofs.lemmas.Bool.{both_ways, le-leb}
use Rattle.range_list.specs.Rangelist.{IsCanonical}
use Rattle.branch_answer.proofs.RunsWithin.{is_in-outside, last-least}
use Rattle.branch_answer.proofs.holdings.Holdings.part.Goals as goal

pub overflow_add-from-2 : goal.overflow_add-from-2
overflow_add-from-2 c =
    let runs = c.args.ranges.now in
    let canonical : IsCanonical runs = subst IsCanonical c.runs.ensures.value c.runs.ensures.canonical in
    let first : slice_get runs 0 ≡ Some c.in_ok-first.first.now = ap (λ all. slice_get all 0) (sym c.runs.ensures.value) ∙ sym c.in_ok-first.ensures.value in
    let last : slice_get runs (length runs - 1) ≡ Some c.in_ok-last.last.now = ap (λ all. slice_get all (length all - 1)) (sym c.runs-2.ensures.value) ∙ sym c.in_ok-last.ensures.value in
    omega (arith, last-least runs canonical c.in_ok-first.first.now c.in_ok-last.last.now first last, c.from-2.ensures)

pub overflow_cast-result : goal.overflow_cast-result
overflow_cast-result c =
    let runs = c.args.ranges.now in
    let canonical : IsCanonical runs = subst IsCanonical c.runs.ensures.value c.runs.ensures.canonical in
    let first : slice_get runs 0 ≡ Some c.in_ok-first.first.now = ap (λ all. slice_get all 0) (sym c.runs.ensures.value) ∙ sym c.in_ok-first.ensures.value in
    let last : slice_get runs (length runs - 1) ≡ Some c.in_ok-last.last.now = ap (λ all. slice_get all (length all - 1)) (sym c.runs-2.ensures.value) ∙ sym c.in_ok-last.ensures.value in
    omega (arith, last-least runs canonical c.in_ok-first.first.now c.in_ok-last.last.now first last, c.from-2.ensures, c.min-end.ensures)

pub returns-then-from-end-clause-whole : goal.returns-then-from-end-clause-whole
returns-then-from-end-clause-whole c = λ rev among outside.
    let runs = c.args.ranges.now in
    let canonical : IsCanonical runs = subst IsCanonical c.runs.ensures.value c.runs.ensures.canonical in
    let first : slice_get runs 0 ≡ Some c.in_ok-first.first.now = ap (λ all. slice_get all 0) (sym c.runs.ensures.value) ∙ sym c.in_ok-first.ensures.value in
    let last : slice_get runs (length runs - 1) ≡ Some c.in_ok-last.last.now = ap (λ all. slice_get all (length all - 1)) (sym c.runs-2.ensures.value) ∙ sym c.in_ok-last.ensures.value in
    is_in-outside runs canonical c.in_ok-first.first.now c.in_ok-last.last.now first last rev
    (λ from to.
    let low : c.max-lo.result ≤ rev = omega (arith, from, among.from, c.max-lo.ensures) in
    let high : rev ≤ c.min-end.result - 1 = omega (arith, to, among.below, c.min-end.ensures, c.from.ensures, c.len.ensures, c.args.self.now.how.ok.0, c.from-2.ensures) in
    both_ways _ outside (ap₂ (λ a b. a && b) (le-leb c.max-lo.result rev low) (le-leb rev (c.min-end.result - 1) high)))

pub returns-else-from-end-clause-whole : goal.returns-else-from-end-clause-whole
returns-else-from-end-clause-whole c = λ rev among outside.
    let runs = c.args.ranges.now in
    let canonical : IsCanonical runs = subst IsCanonical c.runs.ensures.value c.runs.ensures.canonical in
    let first : slice_get runs 0 ≡ Some c.in_ok-first.first.now = ap (λ all. slice_get all 0) (sym c.runs.ensures.value) ∙ sym c.in_ok-first.ensures.value in
    let last : slice_get runs (length runs - 1) ≡ Some c.in_ok-last.last.now = ap (λ all. slice_get all (length all - 1)) (sym c.runs-2.ensures.value) ∙ sym c.in_ok-last.ensures.value in
    is_in-outside runs canonical c.in_ok-first.first.now c.in_ok-last.last.now first last rev
    (λ from to.
    let low : c.max-lo.result ≤ rev = omega (arith, from, among.from, c.max-lo.ensures) in
    let high : rev < c.min-end.result = omega (arith, to, among.below, c.min-end.ensures, c.from.ensures, c.len.ensures, c.args.self.now.how.ok.0, c.from-2.ensures) in
    omega (arith, low, high, c.if-from-end.false, c.from-3.ensures))
