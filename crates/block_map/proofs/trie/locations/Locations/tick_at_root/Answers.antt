use Rattle.block_map.proofs.Common.{length, not, ap, ◌∙◌, arith}
use Rattle.block_map.proofs.LocationPaths.{at_root-stored, length-locations_of, stored_at}
use Rattle.block_map.proofs.trie.locations.Locations.tick_at_root.Goals as goal

pub index-stored-requires : goal.index-stored-requires
index-stored-requires c = omega (arith, c.requires, ap length c.self.view_is, length-locations_of c.self.inside.items.items)

pub returns-then-is_empty : goal.returns-then-is_empty
returns-then-is_empty c =
    let items = c.self.inside.items.items in
    let stored = c.index-stored.result.now in
    let at = stored_at items c.args.self.now c.args.id.0 stored c.self.view_is c.requires c.index-stored.ensures in
    rw (← c.self.view_is)
    (at_root-stored items c.args.id stored c.self.invariant at (c.is_none.ensures ∙ ap not c.if-is_none.true) (c.is_empty.ensures.0 c.if-is_empty.true))
