use Rattle.path_index.proofs.Common.{◌≡◌, ℕ, List, sym, ◌∙◌, get_or_default, place_of, LeadBack}
use Rattle.path_index.proofs.PlacesOfNodes.{IsPlaceOf-known, LeadBack-added}
use Rattle.path_index.proofs.sparse_numbers.place_for.Goals as goal

LeadBack-same : (old new nodes : List ℕ) → ((node : ℕ) → place_of new node ≡ place_of old node) → LeadBack old nodes
    → LeadBack new nodes
LeadBack-same old new nodes same back node place at = back node place (sym (same node) ∙ at)

pub returns-then-known-gt0-clause-place : goal.returns-then-known-gt0-clause-place
returns-then-known-gt0-clause-place c =
    let places = c.extend_to.new.places.items in
    IsPlaceOf-known places c.args.nodes.now.items c.args.node c.index-known.result.now
    (LeadBack-same c.args.places.now.items places c.args.nodes.now.items c.in_ok-extend_to.ensures.same c.requires)
    (sym (c.index-known.ensures
    ∙ get_or_default places c.args.node c.index-known.result.now 0 c.in_ok-extend_to.ensures.within))
    c.if-known-gt0.true

pub returns-clause-back : goal.returns-clause-back
returns-clause-back c =
    let places = c.extend_to.new.places.items in
    LeadBack-added places c.args.nodes.now.items c.add_place.new.nodes.items c.args.node c.in_ok-place.place
    (LeadBack-same c.args.places.now.items places c.args.nodes.now.items c.in_ok-extend_to.ensures.same c.requires)
    c.in_ok-place.ensures.nodes c.in_ok-place.ensures.place c.in_ok-extend_to.ensures.within
