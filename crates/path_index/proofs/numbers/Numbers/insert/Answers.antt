use Rattle.path_index.proofs.Common.{◌≡◌, sym, ap, subst, ◌∙◌, on_ok_weaker, numbers_of, HaveSameNumbers}
use Rattle.path_index.proofs.ListsOfNodes.{items_in, numbers_of-set_other, numbers_of-within, AddsNumbers-same, AddsNumbers-set}
use Rattle.path_index.proofs.numbers.Numbers.insert.Goals as goal

pub returns-clause-added : goal.returns-clause-added
returns-clause-added c =
    let lists = c.extend_to.new.lists.items in
    let node = c.args.node in
    let list = c.index_mut.result.now in
    let own : numbers_of lists node ≡ list.items = numbers_of-within lists node list c.in_ok-extend_to.ensures.within ∙ ap items_in (sym c.index_mut.ensures.value) in
    let same = subst (λ all. HaveSameNumbers all lists) c.self.view_is c.in_ok-extend_to.ensures.same in
    on_ok_weaker c.insert_number.result
    (λ with. AddsNumbers-same same (AddsNumbers-set lists node c.args.number c.insert_number.new.numbers c.in_ok-extend_to.ensures.within (rw own with)))
    c.insert_number.ensures.with

pub returns-clause-others : goal.returns-clause-others
returns-clause-others c = λ other differs.
    let lists = c.extend_to.new.lists.items in
    let same = subst (λ all. HaveSameNumbers all lists) c.self.view_is c.in_ok-extend_to.ensures.same in
    numbers_of-set_other lists c.args.node c.insert_number.new.numbers other differs ∙ same other
