-- What the nodes of a map say of paths.
use Rattle.std.specs.Prelude.{◌≡◌, ℕ, ◌<◌, ◌≤◌, List, [], ◌∷◌, ◌++◌, Option, Some, None, IfSome, IsFalse, drop, fold, length, option_and_then, slice_get}
use Rattle.svn_path.specs.Below.{below}
use Rattle.svn_path.specs.Path.{same_name}
use Rattle.svn_path.specs.declared.names.NameId.{NameId}
use Rattle.svn_dump.specs.declared.record.ValueId.{ValueId}
use Rattle.block_map.specs.Look.{Found, Look, at, is, absent, with_mergeinfo}
use Rattle.block_map.specs.ChildMaps.{Extends, AreOrdered, HaveNodesBelow, child_in}
use Rattle.block_map.specs.Node.{may_give_mergeinfo}
use Rattle.block_map.specs.Standing.{Standing, standing_of}
use Rattle.block_map.specs.declared.trie.node.OwnEntry.{OwnEntry}
use Rattle.block_map.specs.declared.trie.node.OwnEntry.TheVariants as own
use Rattle.block_map.specs.declared.trie.node.Node.{Node}
use Rattle.block_map.specs.declared.trie.node.Base.{Base}
use Rattle.block_map.specs.declared.trie.node.Base.TheVariants as base
use Rattle.block_map.specs.declared.trie.child_map.ChildMap.{ChildMap}
use Rattle.block_map.specs.declared.trie.location.Location.{Location}
use Rattle.block_map.specs.declared.trie.position.PathBase.{PathBase}
use Rattle.block_map.specs.declared.trie.position.PathBase.TheVariants as path_base
use Rattle.block_map.specs.declared.trie.position.Position.{Position}

pub record TrieValue : Type 0 where
  pub nodes : List Node
  pub child_maps : List ChildMap
  pub locations : List Location

abbrev pub LookOfNumbers : Type 0
LookOfNumbers = Look NameId ValueId

-- ---- what a node says

-- nothing stands there
abbrev pub nothing : LookOfNumbers
nothing rest = absent

-- what stood at a location and below it
abbrev pub as_at : Option Location → LookOfNumbers
as_at None rest = absent
as_at (Some location) rest = at (location.path ++ rest) location.tick

-- what a base has at a node and below it, given what that of the parent has there
abbrev pub base_look : TrieValue → Base → LookOfNumbers → LookOfNumbers
base_look trie base.OfParent over = over
base_look trie base.Nothing over = nothing
base_look trie (base.At id) over = as_at (slice_get trie.locations id.0)

-- what is found at the node itself, given what its base has there
abbrev pub own_found : OwnEntry → Found NameId ValueId → Found NameId ValueId
own_found own.AsBase found = found
own_found (own.BaseWithMergeinfo mi) found = with_mergeinfo mi found
own_found (own.Is kind mi) found = is kind mi
own_found own.Absent found = absent

abbrev pub child_of : TrieValue → Node → NameId → Option Node
child_of trie node name = option_and_then (λ id. slice_get trie.nodes id.0) (child_in trie.child_maps node.children name.0)

-- ---- from a node down a path

-- a node, if there is one, and the base that it stands over: what is found there and below it without the node
pub record At : Type 0 where
  pub node : Option Node
  pub base : LookOfNumbers

-- one component further down
abbrev pub child_at : TrieValue → At → NameId → At
child_at trie from name = elim from.node [
  | None ↦ record { node = None; base = λ rest. from.base (name ∷ rest) }
  | Some node ↦ record { node = child_of trie node name; base = λ rest. base_look trie node.base from.base (name ∷ rest) }
]

abbrev pub at_path : TrieValue → At → List NameId → At
at_path trie from path = fold (child_at trie) from path

-- what is found there
abbrev pub found_at : TrieValue → At → Found NameId ValueId
found_at trie from = elim from.node [
  | None ↦ from.base []
  | Some node ↦ own_found node.own (base_look trie node.base from.base [])
]

-- what is found at a path below
abbrev pub found_below : TrieValue → At → List NameId → Found NameId ValueId
found_below trie from path = found_at trie (at_path trie from path)

-- the root of a tree, which stands over nothing
abbrev pub at_root : Node → At
at_root node = record { node = Some node; base = nothing }

-- what stands at a path below a root, as far as it is known
abbrev pub standing_below : TrieValue → Node → List NameId → Option (Standing ValueId)
standing_below trie root path = standing_of (found_below trie (at_root root) path)

-- ---- sound tries

abbrev pub HasLocation : TrieValue → Base → Type 0
HasLocation trie base.OfParent = Unit {0}
HasLocation trie base.Nothing = Unit {0}
HasLocation trie (base.At id) = id.0 < length trie.locations

-- a child gives no mergeinfo, if there is one
abbrev pub ChildGivesNone : Option Node → Type 0
ChildGivesNone child = IfSome child (λ node. IsFalse (may_give_mergeinfo node))

-- no child of the node gives any
abbrev pub ChildrenGiveNone : TrieValue → Node → Type 0
ChildrenGiveNone trie node = (name : NameId) → ChildGivesNone (child_of trie node name)

-- the children and the location of the node are those of the trie, and no child gives mergeinfo unless one may
abbrev pub IsNodeOf : TrieValue → Node → Type 0
IsNodeOf trie node =
    (node.children.0 ≤ length trie.child_maps) × HasLocation trie node.base × (IsFalse node.may_give_mergeinfo_below → ChildrenGiveNone trie node)

pub record IsSound (trie : TrieValue) : Type 0 where
  pub ordered : AreOrdered trie.child_maps
  pub leaves : HaveNodesBelow (length trie.nodes) trie.child_maps
  pub nodes : (index : ℕ) (node : Node) → slice_get trie.nodes index ≡ Some node → IsNodeOf trie node

-- nodes, maps and locations were added, and none changed
pub record ExtendsTrie (old new : TrieValue) : Type 0 where
  pub nodes : Extends old.nodes new.nodes
  pub child_maps : Extends old.child_maps new.child_maps
  pub locations : Extends old.locations new.locations

-- ---- positions as they are kept

-- what the base of a path has at the path and below it
abbrev pub path_base_view : TrieValue → List NameId → PathBase → LookOfNumbers
path_base_view trie path path_base.Nothing = nothing
path_base_view trie path (path_base.At location from) = λ rest. as_at (slice_get trie.locations location.0) (drop from path ++ rest)

abbrev pub position_view : TrieValue → List NameId → Position → At
position_view trie path position = record { node = position.node; base = path_base_view trie path position.base }

-- its location is one of the trie, and no more components were passed than the path has
abbrev pub IsPathBaseOf : TrieValue → List NameId → PathBase → Type 0
IsPathBaseOf trie path path_base.Nothing = Unit {0}
IsPathBaseOf trie path (path_base.At location from) = (location.0 < length trie.locations) × (from ≤ length path)

-- the position is that of the path below a root
pub record IsPositionOf (trie : TrieValue) (root : Node) (path : List NameId) (position : Position) : Type 0 where
  pub node : IfSome position.node (IsNodeOf trie)
  pub base : IsPathBaseOf trie path position.base
  pub is : position_view trie path position ≡ at_path trie (at_root root) path

-- the base of a path of so many components, given that of its node and that of the path above it
abbrev pub base_of_path : Base → PathBase → ℕ → PathBase
base_of_path base.OfParent parent depth = parent
base_of_path base.Nothing parent depth = path_base.Nothing
base_of_path (base.At id) parent depth = path_base.At id depth

-- the location shows what the base of a path has
abbrev pub IsLocationOfPath : TrieValue → List NameId → PathBase → Option Location → Type 0
IsLocationOfPath trie path base location = (rest : List NameId) → as_at location rest ≡ path_base_view trie path base rest

-- over any other, the base has what the base of a path has
abbrev pub IsBaseOfPath : TrieValue → TrieValue → List NameId → PathBase → Base → Type 0
IsBaseOfPath old new path path_base base = (over : LookOfNumbers) → base_look new base over ≡ path_base_view old path path_base

-- over any base, the node shows what was found elsewhere
abbrev pub IsCopiedNode : TrieValue → TrieValue → At → Node → Type 0
IsCopiedNode old new from node = (over : LookOfNumbers) (path : List NameId) →
    found_below new (record { node = Some node; base = over }) path ≡ found_below old from path

-- ---- a node put at a path

-- below the node another one was put at the path; everything else is found as before
abbrev pub PutsNode : TrieValue → TrieValue → Option Node → List NameId → Node → Node → Type 0
PutsNode old new before path put after = (over : LookOfNumbers) (other : List NameId) →
    let from : At = record { node = before; base = over } in
    found_below new (record { node = Some after; base = over }) other ≡ elim (below same_name path other) [
      | None ↦ found_below old from other
      | Some rest ↦ found_below old (record { node = Some put; base = (at_path old from path).base }) rest
    ]
