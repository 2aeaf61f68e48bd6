use Rattle.block_map.proofs.Common.{◌≡◌, ◌++◌, length, ap, arith, locations_of, path_of}
use Rattle.block_map.proofs.LocationPaths.{IsLocationBelow-stored, length-locations_of, stored_at}
use Rattle.block_map.proofs.trie.locations.Locations.below.Goals as goal

pub index-requires : goal.index-requires
index-requires c = omega (arith, c.requires, ap length c.self.view_is, length-locations_of c.self.inside.items.items)

pub returns : goal.returns
returns c =
    let items = c.self.inside.items.items in
    let at = stored_at items c.args.self.now c.args.id.0 c.index.result.now c.self.view_is c.requires c.index.ensures in
    let path : c.in_ok-path.path ≡ path_of (locations_of items) c.args.id ++ c.args.rest.now = rw c.self.view_is c.in_ok-path.ensures in
    rw (← c.self.view_is) (IsLocationBelow-stored items c.args.id c.index.result.now c.args.rest.now c.in_ok-path.path c.self.invariant at path)
