use Rattle.path_index.proofs.Common.{ℕ, refl, subst, on_ok_weaker, AddsNumbers, ArePair, lists_by_node}
use Rattle.path_index.proofs.PlacesOfNodes.{AddsNumbers-by_node}
use Rattle.path_index.proofs.sparse_numbers.SparseNumbers.insert.Goals as goal

pub returns : goal.returns
returns c =
    let old = c.self.inside in
    let new = c.place_for.new in
    let numbers = c.insert.new.self in
    let node = c.args.node in
    let place = c.in_ok-place.place in
    let pair = λ (at : ℕ). ArePair at c.args.number in
    let so = c.in_ok-place.ensures in
    on_ok_weaker c.insert.result
    (λ adds. subst (λ all. AddsNumbers (pair node) all (lists_by_node new.places.items numbers)) c.self.view_is
    (AddsNumbers-by_node old.places.items new.places.items old.nodes.items new.nodes.items old.numbers
    c.self.invariant.1 so.kept numbers node place so.back so.place c.insert.ensures.others (pair place) (pair node)
    (λ n number (here, is). (here, (refl, is))) (λ n number (here, is). (here, (refl, is))) adds))
    c.insert.ensures.added
