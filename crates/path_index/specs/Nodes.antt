-- Numbers for paths: a path's node is found from the root, one component after another.
use Rattle.std.specs.Prelude.{◌≡◌, ℕ, suc, ◌+◌, ◌*◌, ◌%◌, ◌^◌, ◌≤◌, ◌==◌, bit_or, Bool, true, ◌&&◌, List, [], ◌∷◌, ◌++◌, Option, Some, length, slice_get, option_map, option_and_then, position}
use Rattle.std.specs.Hash.{HashWrites, u64}
use Rattle.std.proofs.Common.{ap₂, eqb-true}
use Rattle.std.proofs.lemmas.Bool.{and_parts}
use Rattle.svn_path.specs.Path.{same_name}
use Rattle.svn_path.specs.declared.names.NameId.{NameId}
use Rattle.path_index.specs.declared.nodes.Child.{Child}

abbrev pub same_child : Child → Child → Bool
same_child a b = a.parent == b.parent && same_name a.name b.name

-- what a child gives to a hasher: one word of both numbers
abbrev pub word_of : ℕ → ℕ → ℕ
word_of parent name = bit_or ((parent * 2 ^ 32) % 2 ^ 64) name

abbrev pub writes_of : Child → HashWrites
writes_of child = u64 (word_of child.parent child.name.0)

-- so equal children give the same
pub writes_of-same : (a b : Child) → same_child a b ≡ true → writes_of a ≡ writes_of b
writes_of-same a b same =
    let (parents, names) = and_parts (a.parent == b.parent) (same_name a.name b.name) same in
    ap₂ (λ parent name. u64 (word_of parent name)) (eqb-true a.parent b.parent parents) (eqb-true a.name.0 b.name.0 names)

-- the node of a component below another node: the root is node 0, and the child of an index in the list has the number
-- after it
abbrev pub child_of : List Child → ℕ → NameId → Option ℕ
child_of children parent name =
    option_map suc (position (same_child (record { parent = parent; name = name })) children)

-- the node of a path below another node
abbrev pub node_below : List Child → ℕ → List NameId → Option ℕ
node_below children node [] = Some node
node_below children node (name ∷ path) =
    option_and_then (λ child. node_below children child path) (child_of children node name)

abbrev pub node_of : List Child → List NameId → Option ℕ
node_of children path = node_below children 0 path

-- children were added, and none removed
pub record ExtendsNodes (old new : List Child) : Type 0 where
  pub more : List Child
  pub grown : new ≡ old ++ more

-- each node stands after the one above it
abbrev pub HaveParentsBefore : List Child → Type 0
HaveParentsBefore children = (index : ℕ) (child : Child) → slice_get children index ≡ Some child → child.parent ≤ index

-- each path with a node among some children has the node to which that is mapped
pub record AreNodesOf (later children : List Child) (nodes : List ℕ) : Type 0 where
  pub all : length nodes ≡ length later + 1
  pub mapped : (path : List NameId) (node : ℕ) → node_of later path ≡ Some node
      → node_of children path ≡ slice_get nodes node
