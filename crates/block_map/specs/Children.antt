-- What stands directly below a path.
use Rattle.std.specs.List.{AllPairs, Contains}
use Rattle.std.specs.Prelude.{◌≡◌, ◌≢◌, ℕ, ◌+◌, ◌*◌, ◌^◌, ◌<◌, ◌⊎◌, List, [], ◌∷◌, ◌++◌, Option, Some, None, option_map}
use Rattle.svn_path.specs.declared.names.NameId.{NameId}
use Rattle.svn_dump.specs.declared.record.Kind.{Kind}
use Rattle.svn_dump.specs.declared.record.ValueId.{ValueId}
use Rattle.block_map.specs.ChildMaps.{child_in}
use Rattle.block_map.specs.Look.{Found}
use Rattle.block_map.specs.Standing.{Standing}
use Rattle.block_map.specs.Trie.{as_at}
use Rattle.block_map.specs.declared.entry.Child.{Child}
use Rattle.block_map.specs.declared.entry.Entry.{Entry}
use Rattle.block_map.specs.declared.trie.child_map.ChildMap.{ChildMap}
use Rattle.block_map.specs.declared.trie.child_map.ChildMapId.{ChildMapId}
use Rattle.block_map.specs.declared.trie.location.Location.{Location}
use Rattle.block_map.specs.declared.trie.node.NodeId.{NodeId}

-- the kind of what stands at a name directly below a path
abbrev pub kind_below : (List NameId → Option (Standing ValueId)) → List NameId → NameId → Option Kind
kind_below standing path name = option_map (λ each. each.kind) (standing (path ++ name ∷ []))

-- what stands directly below the path: each name once, with its kind; the number of a name has 32 bits
pub record AreChildren (standing : List NameId → Option (Standing ValueId)) (path : List NameId) (children : List Child) : Type 0 where
  pub distinct : AllPairs (λ one other. one.name ≢ other.name) children
  pub sound : (child : Child) → Contains children child → kind_below standing path child.name ≡ Some child.kind
  pub complete : (name : NameId) (kind : Kind) → name.0 < 2 ^ 32 → kind_below standing path name ≡ Some kind
      → Contains children (record { name = name; kind = kind })

-- the child of a name at which this stands, if anything does
abbrev pub child_with : NameId → Option Entry → List Child
child_with name None = []
child_with name (Some entry) = record { name = name; kind = entry.kind } ∷ []

-- ---- numbers of names

-- the numbers of all names at which something stands directly below the path are among these
abbrev pub HaveAllNames : (List NameId → Option (Standing ValueId)) → List NameId → List ℕ → Type 0
HaveAllNames standing path names =
    (name : NameId) (kind : Kind) → name.0 < 2 ^ 32 → kind_below standing path name ≡ Some kind → Contains names name.0

-- none was taken away
abbrev pub AreKept : List ℕ → List ℕ → Type 0
AreKept old new = (name : ℕ) → Contains old name → Contains new name

-- the numbers of all names of a map are among these, where the bits of the map are multiplied and go on from lower ones
abbrev pub HaveMapNames : List ChildMap → ChildMapId → ℕ → ℕ → List ℕ → Type 0
HaveMapNames maps map low scale names =
    (bits : ℕ) (node : NodeId) → child_in maps map bits ≡ Some node → low + scale * bits < 2 ^ 32 → Contains names (low + scale * bits)

-- at each name that is not among these, what is found directly below a path is what is found below a location
abbrev pub AreOthersAt : (NameId → Found NameId ValueId → Type 0) → List ℕ → Option Location → Type 0
AreOthersAt is names base = (name : NameId) → name.0 < 2 ^ 32 → Contains names name.0 ⊎ is name (as_at base (name ∷ []))
