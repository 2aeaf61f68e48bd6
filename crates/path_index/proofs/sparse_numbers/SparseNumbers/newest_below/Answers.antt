use Rattle.path_index.proofs.Common.{◌≡◌, Contains, length, sym, ap, subst, ◌∙◌, ltb-true, get_or_default, numbers_of, IsNewestBelow, lists_by_node, place_of}
use Rattle.path_index.proofs.PlacesOfNodes.{numbers_of-by_node}
use Rattle.path_index.proofs.sparse_numbers.SparseNumbers.newest_below.Goals as goal

pub returns : goal.returns
returns c =
    let places = c.deref.result.now in
    let numbers = c.self.inside.numbers in
    let node = c.args.node in
    let place = c.in_ok-place.place.now in
    let found = c.in_ok-place.ensures.lookup in
    let at : place_of places node ≡ place =
    sym (found.1 ∙ get_or_default places node place 0 (ltb-true node (length places) (sym found.0))) in
    let own : numbers_of c.args.self.now node ≡ numbers_of numbers place =
    ap (λ all. numbers_of all node) (sym (ap (λ all. lists_by_node all numbers) c.deref.ensures.value ∙ c.self.view_is))
    ∙ numbers_of-by_node places numbers node c.self.invariant.1.0 ∙ ap (numbers_of numbers) at in
    subst (λ all. IsNewestBelow c.args.limit (Contains all) c.newest_below.result) (sym own) c.newest_below.ensures
