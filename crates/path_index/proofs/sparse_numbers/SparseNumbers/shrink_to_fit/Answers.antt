use Rattle.path_index.proofs.Common.{sym, subst, HaveSameNumbers, lists_by_node}
use Rattle.path_index.proofs.PlacesOfNodes.{HaveSameNumbers-by_node}
use Rattle.path_index.proofs.sparse_numbers.SparseNumbers.shrink_to_fit.Goals as goal

pub returns : goal.returns
returns c =
    let places = c.self.inside.places.items in
    let numbers = c.shrink_to_fit.new.self in
    subst (HaveSameNumbers c.args.self.now) (sym c.shrink_nodes.ensures)
    (subst (λ all. HaveSameNumbers all (lists_by_node places numbers)) c.self.view_is
    (HaveSameNumbers-by_node places c.self.inside.numbers numbers c.self.invariant.1.0 c.shrink_to_fit.ensures))
