use Rattle.block_map.proofs.Common.{◌<◌, IfSome, length, sym, ap, subst, ◌∙◌, arith, AreAfterThoseAbove, locations_of, with_stored}
use Rattle.block_map.proofs.LocationPaths.{AreAfterThoseAbove-push, length-locations_of, locations_of-push}
use Rattle.block_map.proofs.trie.locations.Locations.push_stored.Goals as goal

pub invariant_of-self-2 : goal.invariant_of-self-2
invariant_of-self-2 c =
    let count = sym (ap length c.self.view_is) ∙ length-locations_of c.self.inside.items.items in
    subst AreAfterThoseAbove (sym c.in_ok-push.ensures.items)
    (AreAfterThoseAbove-push c.self.inside.items.items c.args.stored c.self.invariant
    (subst (λ count. IfSome c.args.stored.above (λ above. above.0 < count)) count c.requires))

pub returns-clause-id : goal.returns-clause-id
returns-clause-id c = omega (arith, ap length c.self.view_is, length-locations_of c.self.inside.items.items)

pub returns-clause-added : goal.returns-clause-added
returns-clause-added c =
    ap locations_of c.in_ok-push.ensures.items ∙ locations_of-push c.self.inside.items.items c.args.stored
    ∙ ap (λ locations. with_stored locations c.args.stored) c.self.view_is
