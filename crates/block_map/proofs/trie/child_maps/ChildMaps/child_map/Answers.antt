use Rattle.block_map.proofs.Common.{◌≡◌, ◌≢◌, ◌-◌, map, option_map, ap, ◌∙◌, rules, option_copied}
use Rattle.block_map.specs.StoredChildMaps.{child_map_of}
use Rattle.block_map.proofs.StoredChildMaps.{child_map_at-stored, slice_get-found}
use Rattle.block_map.proofs.trie.child_maps.ChildMaps.child_map.Goals as goal

pub returns-in_default-clause-is : goal.returns-in_default-clause-is
returns-in_default-clause-is c =
    let items = c.deref.result.now in
    let stored = option_copied c.get.result in
    let some : c.args.id.0 ≢ 0 = search rules in
    let are = ap (map child_map_of) c.deref.ensures.value ∙ c.self.view_is in
    let at = slice_get-found items (c.args.id.0 - 1) c.get.result c.get.ensures.lookup.0 c.get.ensures.lookup.1 in
    let is : c.map.result ≡ option_map child_map_of stored = search rules in
    is ∙ child_map_at-stored items c.args.self.now c.args.id.0 stored are some at
