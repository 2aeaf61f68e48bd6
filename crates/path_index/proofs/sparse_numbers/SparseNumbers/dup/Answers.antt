use Rattle.path_index.proofs.Common.{sym, subst, ◌∙◌, HaveSameNumbers, lists_by_node}
use Rattle.path_index.proofs.PlacesOfNodes.{HaveSameNumbers-by_node}
use Rattle.path_index.proofs.sparse_numbers.SparseNumbers.dup.Goals as goal

pub returns : goal.returns
returns c =
    let old = c.self.inside in
    let numbers = c.in_ok-dup.field-0 in
    let places = c.in_ok-from_slice.ensures.items ∙ c.as_slice.ensures.value in
    subst (λ all. HaveSameNumbers all (lists_by_node c.in_ok-from_slice.field-0.items numbers)) c.self.view_is
    (subst (λ all. HaveSameNumbers (lists_by_node old.places.items old.numbers) (lists_by_node all numbers))
    (sym places)
    (HaveSameNumbers-by_node old.places.items old.numbers numbers c.self.invariant.1.0 c.in_ok-dup.ensures))
