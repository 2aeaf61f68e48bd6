use Rattle.path_index.proofs.Common.{◌≡◌, ℕ, ◌<◌, length, sym, subst, ap, ◌∙◌, SmallVec, ltb-true, numbers_of, IsRising}
use Rattle.path_index.proofs.ListsOfNodes.{numbers_of-past, numbers_of-within}
use Rattle.path_index.proofs.numbers.Numbers.of.Goals as goal

pub returns-in-Some-clause-rising : goal.returns-in-Some-clause-rising
returns-in-Some-clause-rising c =
    let lists = c.deref.result.now in
    let within : c.args.node < length lists = ltb-true c.args.node (length lists) (sym c.in-Some.ensures.lookup.0) in
    let at : numbers_of lists c.args.node ≡ c.as_slice.result.now =
    numbers_of-within lists c.args.node c.in-Some.list.now within ∙ ap (λ (list : SmallVec ℕ). list.items) (sym c.in-Some.ensures.lookup.1) ∙ sym c.as_slice.ensures in
    subst IsRising at (subst (λ all. IsRising (numbers_of all c.args.node)) (sym c.deref.ensures.value) (c.self.invariant c.args.node))

pub returns-in-None-clause-numbers : goal.returns-in-None-clause-numbers
returns-in-None-clause-numbers c =
    sym (numbers_of-past c.deref.result.now c.args.node c.in-None.ensures.lookup.3) ∙ ap (λ lists. numbers_of lists c.args.node) (c.deref.ensures.value ∙ c.self.view_is)
