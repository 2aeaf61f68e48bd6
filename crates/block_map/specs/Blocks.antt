-- The blocks of a map, in the order of their records.
use Rattle.std.specs.Arc.{arc_value}
use Rattle.std.specs.declared.sync.Arc.{Arc}
use Rattle.std.specs.Prelude.{◌≡◌, ℕ, ◌<◌, ◌≤◌, All, List, [], ◌∷◌, ◌++◌, flat_map, length, map, ⊤}
use Rattle.std.specs.Global.{Global}
use Rattle.std.specs.List.{sum_by}
use Rattle.svn_path.specs.declared.names.NameId.{NameId}
use Rattle.svn_dump.specs.History.{Record}
use Rattle.svn_dump.specs.declared.record.ValueId.{ValueId}
use Rattle.block_map.specs.Trees.{AreMapTrees, end_of_trees}
use Rattle.block_map.specs.declared.trees.Trees.{Trees}

-- the trees of each block, which maps share
abbrev pub block_trees : List (Arc Trees Global) → List Trees
block_trees blocks = map arc_value blocks

abbrev pub block_records : List Trees → List (Record NameId ValueId)
block_records blocks = flat_map (λ block. block.records.items) blocks

abbrev pub block_nodes : List Trees → ℕ
block_nodes blocks = sum_by (λ block. length block.trie.nodes) blocks

-- each block begins where the one before it ends, and has some records and few nodes
abbrev pub AreBlocksFrom : ℕ → List Trees → Type 0
AreBlocksFrom lo [] = ⊤
AreBlocksFrom lo (first ∷ rest) =
    (first.start ≡ lo) × (0 < length first.records.items) × AreMapTrees first × AreBlocksFrom (end_of_trees first) rest

-- the first ones are those that begin before a tick
pub record AreBlocksBefore (tick : ℕ) (all front : List Trees) : Type 0 where
  pub more : List Trees
  pub split : all ≡ front ++ more
  pub before : All (λ block. block.start < tick) front
  pub after : All (λ block. tick ≤ block.start) more
