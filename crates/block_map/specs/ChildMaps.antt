-- Maps from the names of children to their nodes. The bits of a name's number are read from the lowest one on: a branch
-- tells two smaller maps apart by a bit, and a leaf has one name, by the bits that are left of it.
use Rattle.std.specs.Prelude.{◌≡◌, ℕ, zero, suc, ◌<◌, ◌≤◌, ◌%◌, ◌/◌, ◌==◌, ◌++◌, List, Option, Some, None, length, slice_get, if◌then◌else◌}
use Rattle.block_map.specs.declared.trie.node.NodeId.{NodeId}
use Rattle.block_map.specs.declared.trie.child_map.ChildMap.{ChildMap}
use Rattle.block_map.specs.declared.trie.child_map.ChildMap.TheVariants.{Leaf, Branch}
use Rattle.block_map.specs.declared.trie.child_map.ChildMapId.{ChildMapId}

-- the map of an index has the number after it; 0 is the number of the empty map
abbrev pub child_map_at : List ChildMap → ℕ → Option ChildMap
child_map_at maps zero = None
child_map_at maps (suc index) = slice_get maps index

-- the node of the name of which these bits are left, found in at most so many steps
unfoldable pub found_within : List ChildMap → ℕ → ℕ → ℕ → Option NodeId
found_within maps zero number bits = None
found_within maps (suc steps) number bits =
    elim (child_map_at maps number) [
      | None ↦ None
      | Some (Leaf left node) ↦ if left == bits then Some node else None
      | Some (Branch even odd) ↦ if bits % 2 == 0 then found_within maps steps even.0 (bits / 2) else found_within maps steps odd.0 (bits / 2)
    ]

-- a map stands after those that it is made of, so there are no more steps than its number
abbrev pub child_in : List ChildMap → ChildMapId → ℕ → Option NodeId
child_in maps id bits = found_within maps id.0 id.0 bits

abbrev pub AreOrdered : List ChildMap → Type 0
AreOrdered maps = (index : ℕ) (even odd : ChildMapId) → slice_get maps index ≡ Some (Branch even odd) → (even.0 ≤ index) × (odd.0 ≤ index)

-- the map is made of some of these
abbrev pub IsOrderedAfter : List ChildMap → ChildMap → Type 0
IsOrderedAfter maps (Leaf bits node) = Unit {0}
IsOrderedAfter maps (Branch even odd) = (even.0 ≤ length maps) × (odd.0 ≤ length maps)

-- each node of a leaf is among the first so many
abbrev pub HaveNodesBelow : ℕ → List ChildMap → Type 0
HaveNodesBelow count maps = (index bits : ℕ) (node : NodeId) → slice_get maps index ≡ Some (Leaf bits node) → node.0 < count

-- some were added
pub record Extends {X : Type 0} (old new : List X) : Type 0 where
  pub more : List X
  pub grown : new ≡ old ++ more

-- the map has the node for the name, and is otherwise the other map
abbrev pub SetsChild : List ChildMap → List ChildMap → ChildMapId → ℕ → NodeId → ChildMapId → Type 0
SetsChild old new before bits node after =
    (other : ℕ) → child_in new after other ≡ (if other == bits then Some node else child_in old before other)

-- ---- maps as functions of the bits of a name

-- one name
abbrev pub leaf_of : ℕ → NodeId → ℕ → Option NodeId
leaf_of bits node name = if name == bits then Some node else None

-- another map with one name set
abbrev pub with_name : (ℕ → Option NodeId) → ℕ → NodeId → ℕ → Option NodeId
with_name lookup bits node name = if name == bits then Some node else lookup name

-- one map for the names that have the lowest bit of these bits, and another one for those that have not
abbrev pub sides_of : ℕ → (ℕ → Option NodeId) → (ℕ → Option NodeId) → ℕ → Option NodeId
sides_of bits same other name = if name % 2 == bits % 2 then same (name / 2) else other (name / 2)

-- the map has one name alone
abbrev pub HasOne : List ChildMap → ℕ → NodeId → ChildMapId → Type 0
HasOne maps bits node map = (name : ℕ) → child_in maps map name ≡ leaf_of bits node name

-- the map has two names alone
abbrev pub HasTwo : List ChildMap → ℕ → NodeId → ℕ → NodeId → ChildMapId → Type 0
HasTwo maps one one_node other other_node map = (name : ℕ) → child_in maps map name ≡ with_name (leaf_of other other_node) one one_node name

-- the map is made of two others
abbrev pub HasSides : List ChildMap → List ChildMap → ℕ → ChildMapId → ChildMapId → ChildMapId → Type 0
HasSides old new bits same other map = (name : ℕ) → child_in new map name ≡ sides_of bits (child_in old same) (child_in old other) name
