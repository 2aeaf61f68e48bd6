-- Maps of children as they are stored, in two numbers of 32 bits.
use Rattle.std.specs.Prelude.{ltb, ◌-◌, ◌^◌, if◌then◌else◌}
use Rattle.block_map.specs.declared.trie.child_map.ChildMap.{ChildMap}
use Rattle.block_map.specs.declared.trie.child_map.ChildMap.TheVariants.{Leaf, Branch}
use Rattle.block_map.specs.declared.trie.stored_child_map.StoredChildMap.{StoredChildMap}

-- the second one is less than 2 ^ 31 in a branch alone
abbrev pub child_map_of : StoredChildMap → ChildMap
child_map_of stored =
    if ltb stored.second (2 ^ 31)
    then Branch (record { 0 = stored.first }) (record { 0 = stored.second })
    else Leaf stored.first (record { 0 = stored.second - 2 ^ 31 })
