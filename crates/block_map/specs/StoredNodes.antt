-- Nodes as they are stored, in sixteen bytes.
use Rattle.std.specs.Prelude.{Option, Some, None, if◌then◌else◌}
use Rattle.svn_dump.specs.declared.record.Kind.TheVariants.{File, Dir}
use Rattle.svn_dump.specs.declared.record.ValueId.{ValueId}
use Rattle.block_map.specs.declared.trie.location.LocationId.{LocationId}
use Rattle.block_map.specs.declared.trie.node.Base.{Base}
use Rattle.block_map.specs.declared.trie.node.Base.TheVariants as base
use Rattle.block_map.specs.declared.trie.node.Node.{Node}
use Rattle.block_map.specs.declared.trie.node.OwnEntry.{OwnEntry}
use Rattle.block_map.specs.declared.trie.node.OwnEntry.TheVariants as own
use Rattle.block_map.specs.declared.trie.stored_node.StoredBase.{StoredBase}
use Rattle.block_map.specs.declared.trie.stored_node.StoredBase.TheVariants as stored_base
use Rattle.block_map.specs.declared.trie.stored_node.StoredNode.{StoredNode}
use Rattle.block_map.specs.declared.trie.stored_node.StoredOwnEntry.{StoredOwnEntry}
use Rattle.block_map.specs.declared.trie.stored_node.StoredOwnEntry.TheVariants as stored_own

-- the own entry that is stored with this mergeinfo
abbrev pub own_entry_of : StoredOwnEntry → Option ValueId → OwnEntry
own_entry_of stored_own.AsBase mi = own.AsBase
own_entry_of stored_own.BaseWithMergeinfo mi = own.BaseWithMergeinfo mi
own_entry_of stored_own.File mi = own.Is File mi
own_entry_of stored_own.Dir mi = own.Is Dir mi
own_entry_of stored_own.Absent mi = own.Absent

-- the base that is stored with this location
abbrev pub base_of : StoredBase → LocationId → Base
base_of stored_base.OfParent location = base.OfParent
base_of stored_base.Nothing location = base.Nothing
base_of stored_base.At location = base.At location

abbrev pub node_of : StoredNode → Node
node_of stored = record {
  own = own_entry_of stored.own (if stored.has_mergeinfo then Some stored.mergeinfo else None);
  base = base_of stored.base stored.location;
  children = stored.children;
  may_give_mergeinfo_below = stored.may_give_mergeinfo_below;
}
