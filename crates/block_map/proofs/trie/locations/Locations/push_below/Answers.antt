use Rattle.block_map.proofs.Common.{length, subst, ap, arith, on_ok_weaker, AddsBelow}
use Rattle.block_map.proofs.LocationPaths.{AddsBelow-stored, length-locations_of, stored_at}
use Rattle.block_map.proofs.trie.locations.Locations.push_below.Goals as goal

pub index-requires : goal.index-requires
index-requires c = omega (arith, c.requires, ap length c.self.view_is, length-locations_of c.self.inside.items.items)

pub returns-clause-added : goal.returns-clause-added
returns-clause-added c =
    let items = c.self.inside.items.items in
    let above = c.args.above in
    let stored = c.index.result.now in
    let at = stored_at items c.args.self.now above.0 stored c.self.view_is c.requires c.index.ensures in
    on_ok_weaker c.push_stored.result
    (λ added. subst (λ locations. AddsBelow locations c.push_stored.new.self above c.args.rest.now) c.self.view_is
    (AddsBelow-stored items above stored c.args.rest.now c.push_stored.new.self c.self.invariant at (rw (c.self.view_is, ← c.in_ok-rest.ensures) added)))
    c.push_stored.ensures.added
