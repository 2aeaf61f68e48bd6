use Rattle.path_index.proofs.Common.{refl, subst, on_ok_weaker, AddsNumbers, IsShifted, lists_by_node}
use Rattle.path_index.proofs.PlacesOfNodes.{AddsNumbers-by_node}
use Rattle.path_index.proofs.sparse_numbers.SparseNumbers.insert_shifted.Goals as goal

pub returns : goal.returns
returns c =
    let old = c.self.inside in
    let new = c.place_for.new in
    let numbers = c.insert_shifted.new.self in
    let node = c.args.node in
    let place = c.in_ok-place.place in
    let shifted = IsShifted c.args.numbers.now c.args.shift in
    let so = c.in_ok-place.ensures in
    on_ok_weaker c.insert_shifted.result
    (λ adds. subst (λ all. AddsNumbers (shifted node) all (lists_by_node new.places.items numbers)) c.self.view_is
    (AddsNumbers-by_node old.places.items new.places.items old.nodes.items new.nodes.items old.numbers
    c.self.invariant.1 so.kept numbers node place so.back so.place c.insert_shifted.ensures.others
    (shifted place) (shifted node)
    (λ n number so. (so.here, record { here = refl; earlier = so.earlier; within = so.within; is = so.is }))
    (λ n number so. (so.here, record { here = refl; earlier = so.earlier; within = so.within; is = so.is })) adds))
    c.insert_shifted.ensures.added
