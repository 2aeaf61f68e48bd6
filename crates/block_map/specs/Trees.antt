-- The trees after each of some records.
use Rattle.std.specs.Prelude.{◌≡◌, ℕ, ◌+◌, ◌^◌, ◌<◌, ◌≤◌, List, ◌++◌, Option, None, Some, length, slice_get}
use Rattle.svn_path.specs.Path.{same_name}
use Rattle.svn_path.specs.declared.names.NameId.{NameId}
use Rattle.svn_dump.specs.Dump.{action_view}
use Rattle.svn_dump.specs.History.{Action, Record}
use Rattle.svn_dump.specs.declared.record.NodeRecord.{NodeRecord}
use Rattle.svn_dump.specs.declared.record.ValueId.{ValueId}
use Rattle.block_map.specs.Ends.{action_at_tick}
use Rattle.block_map.specs.Map.{most_nodes, nodes_for}
use Rattle.block_map.specs.Look.{Found, found_after_action, resolved, look, look_after, looks_of}
use Rattle.block_map.specs.LookThrough.{look_through}
use Rattle.block_map.specs.Trie.{ExtendsTrie, IsNodeOf, IsSound, LookOfNumbers, at_path, at_root, found_below}
use Rattle.block_map.specs.declared.trees.Trees.{Trees}
use Rattle.block_map.specs.declared.trie.node.Node.{Node}
use Rattle.block_map.specs.declared.trie.node.NodeId.{NodeId}

-- the tick after the last record
abbrev pub end_of_trees : Trees → ℕ
end_of_trees trees = trees.start + length trees.records.items

-- what the records of the trees say of a path at a tick
abbrev pub look_in_trees : Trees → ℕ → LookOfNumbers
look_in_trees trees tick path = resolved trees.start (look same_name trees.start trees.records.items tick path)

-- what the records of trees say of what later records found
abbrev pub look_through_trees : Trees → Found NameId ValueId → Found NameId ValueId
look_through_trees trees each = look_through same_name trees.start trees.records.items each

-- the tree below the node shows what they say of a tick
abbrev pub ShowsTick : Trees → ℕ → Node → Type 0
ShowsTick trees tick node = (path : List NameId) → found_below trees.trie (at_root node) path ≡ look_in_trees trees tick path

-- the root of the tree at a tick
pub record IsRootAt (trees : Trees) (tick : ℕ) (id : NodeId) : Type 0 where
  pub node : Node
  pub at : slice_get trees.trie.nodes id.0 ≡ Some node
  pub shows : ShowsTick trees tick node

-- there is a root for each record, for the tick after it
pub record AreTrees (trees : Trees) : Type 0 where
  pub few : end_of_trees trees < 2 ^ 32
  pub sound : IsSound trees.trie
  pub roots : length trees.roots.items ≡ length trees.records.items
  pub each : (index : ℕ) (id : NodeId) → slice_get trees.roots.items index ≡ Some id → IsRootAt trees (trees.start + index + 1) id

-- they are the trees of a map: they have few nodes, for the number of the records and for their paths
pub record AreMapTrees (trees : Trees) : Type 0 where
  pub is : AreTrees trees
  pub few : length trees.trie.nodes ≤ most_nodes (length trees.records.items)
  pub nodes : length trees.trie.nodes ≤ nodes_for trees.records.items

-- the same records, with nodes, maps and locations added
pub record SameTrees (old new : Trees) : Type 0 where
  pub start : new.start ≡ old.start
  pub roots : new.roots.items ≡ old.roots.items
  pub records : new.records.items ≡ old.records.items
  pub trie : ExtendsTrie old.trie new.trie
  pub sound : IsSound new.trie

-- over any base the node shows what stood at a path and below it at a tick
abbrev pub ShowsPath : Trees → ℕ → List NameId → Node → Type 0
ShowsPath trees tick path node = (over : LookOfNumbers) (rest : List NameId) →
    found_below trees.trie (record { node = Some node; base = over }) rest ≡ look_in_trees trees tick (path ++ rest)

-- what an action leaves at a path and below it
abbrev pub look_after_action : Trees → List NameId → Action NameId ValueId → LookOfNumbers
look_after_action trees path action rest =
    resolved trees.start (found_after_action trees.start (looks_of same_name trees.start trees.records.items) action
    (look same_name trees.start trees.records.items (end_of_trees trees) (path ++ rest)) rest)

-- the node shows that at the path below a root
abbrev pub ShowsAction : Trees → Node → List NameId → Action NameId ValueId → Node → Type 0
ShowsAction trees root path action node = (rest : List NameId) →
    found_below trees.trie (record { node = Some node; base = (at_path trees.trie (at_root root) path).base }) rest
    ≡ look_after_action trees path action rest

-- the node that an action puts; or it puts none, and leaves what is there
abbrev pub IsNodeAfter : Trees → Node → List NameId → Action NameId ValueId → Option Node → Type 0
IsNodeAfter trees root path action (Some node) = IsNodeOf trees.trie node × ShowsAction trees root path action node
IsNodeAfter trees root path action None =
    (rest : List NameId) → look_after_action trees path action rest ≡ look_in_trees trees (end_of_trees trees) (path ++ rest)

-- the action of a record, with the source of a copy at a tick
abbrev pub action_in : List ℕ → NodeRecord → Action NameId ValueId
action_in ends each = action_at_tick ends (action_view each.act)

-- what is found after one more record
abbrev pub look_after_record : Trees → Record NameId ValueId → LookOfNumbers
look_after_record trees each path = resolved trees.start (look_after same_name trees.start (looks_of same_name trees.start trees.records.items) each path)

-- the root of the tree after one more record
pub record IsRootAfter (trees : Trees) (each : Record NameId ValueId) (id : NodeId) : Type 0 where
  pub node : Node
  pub at : slice_get trees.trie.nodes id.0 ≡ Some node
  pub shows : (path : List NameId) → found_below trees.trie (at_root node) path ≡ look_after_record trees each path
