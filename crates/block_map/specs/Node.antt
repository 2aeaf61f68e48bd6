-- The nodes that records put.
use Rattle.std.specs.Prelude.{◌||◌, Bool, false, true, is_some, Option}
use Rattle.svn_dump.specs.History.{Setting, keep, put}
use Rattle.svn_dump.specs.declared.record.Kind.{Kind}
use Rattle.svn_dump.specs.declared.record.ValueId.{ValueId}
use Rattle.block_map.specs.declared.trie.node.OwnEntry.{OwnEntry}
use Rattle.block_map.specs.declared.trie.node.OwnEntry.TheVariants as own
use Rattle.block_map.specs.declared.trie.node.Node.{Node}
use Rattle.block_map.specs.declared.trie.node.Base.{Base}
use Rattle.block_map.specs.declared.trie.node.Base.TheVariants as base
use Rattle.block_map.specs.declared.trie.child_map.ChildMapId.{ChildMapId}
use Rattle.block_map.specs.declared.trie.location.LocationId.{LocationId}

abbrev pub no_children : ChildMapId
no_children = record { 0 = 0 }

-- nothing is known of it but by its base
abbrev pub untouched : Node
untouched = record { own = own.AsBase; base = base.OfParent; children = no_children; may_give_mergeinfo_below = false }

abbrev pub absent_node : Node
absent_node = record { own = own.Absent; base = base.Nothing; children = no_children; may_give_mergeinfo_below = false }

abbrev pub node_of_kind : Kind → Option ValueId → Node
node_of_kind kind mi = record { own = own.Is kind mi; base = base.Nothing; children = no_children; may_give_mergeinfo_below = false }

abbrev pub node_at_location : LocationId → Node
node_at_location id = record { own = own.AsBase; base = base.At id; children = no_children; may_give_mergeinfo_below = false }

abbrev pub is_location : Base → Bool
is_location base.OfParent = false
is_location base.Nothing = false
is_location (base.At id) = true

-- whether it gives mergeinfo to its path, other than what its base has there
abbrev pub gives_mergeinfo : OwnEntry → Bool
gives_mergeinfo own.AsBase = false
gives_mergeinfo (own.BaseWithMergeinfo mi) = is_some mi
gives_mergeinfo (own.Is kind mi) = is_some mi
gives_mergeinfo own.Absent = false

-- whether the node may give mergeinfo to its path or one below it, other than what the base of its parent has there
abbrev pub may_give_mergeinfo : Node → Bool
may_give_mergeinfo node = (node.may_give_mergeinfo_below || gives_mergeinfo node.own) || is_location node.base

-- what stands at the node with this mergeinfo, if anything stands there
abbrev pub own_with_mergeinfo : Option ValueId → OwnEntry → OwnEntry
own_with_mergeinfo mi own.AsBase = own.BaseWithMergeinfo mi
own_with_mergeinfo mi (own.BaseWithMergeinfo old) = own.BaseWithMergeinfo mi
own_with_mergeinfo mi (own.Is kind old) = own.Is kind mi
own_with_mergeinfo mi own.Absent = own.Absent

abbrev pub node_with_mergeinfo : Option ValueId → Node → Node
node_with_mergeinfo mi node = record node { own = own_with_mergeinfo mi node.own }

-- the node with the mergeinfo that a record leaves
abbrev pub node_with_setting : Setting ValueId → Node → Node
node_with_setting keep node = node
node_with_setting (put mi) node = node_with_mergeinfo mi node
