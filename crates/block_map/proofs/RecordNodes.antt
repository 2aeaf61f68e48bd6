-- The nodes that records put show what the records leave at their paths and below them.
use Rattle.block_map.proofs.Common.{◌≡◌, ℕ, zero, suc, Bool, false, List, [], ◌∷◌, ◌++◌, Option, None, Some, unwrap_or, refl, sym, ap, ◌∙◌, append-nil, fold-append, same_name, NameId, Setting, delete, change, add, copy, keep, put, mergeinfo_after, ValueId, ShowsAction, ShowsPath, ShowsTick, end_of_trees, look_in_trees, Found, resolved, look, with_setting, with_mergeinfo, absent_node, own_with_mergeinfo, node_of_kind, node_with_setting, node_with_mergeinfo, untouched, At, IsNodeOf, LookOfNumbers, TrieValue, at_path, at_root, child_at, found_at, found_below, own_found, Trees, Node}
use Rattle.svn_dump.specs.declared.record.Kind.{Kind}
use Rattle.block_map.specs.Look as found
use Rattle.block_map.specs.declared.trie.node.OwnEntry.{OwnEntry}
use Rattle.block_map.specs.declared.trie.node.OwnEntry.TheVariants as own
use Rattle.block_map.proofs.TreesNodes.{found_below-childless}
use Rattle.block_map.proofs.CopiedNodes.{child_at-untouched, found_at-untouched}

-- ---- what trees show

resolved-absent : (lo : ℕ) → resolved {C = NameId} {M = ValueId} lo found.absent ≡ found.absent
resolved-absent zero = refl
resolved-absent (suc lo) = refl

resolved-is : (lo : ℕ) (kind : Kind) (mi : Option ValueId) → resolved {C = NameId} lo (found.is kind mi) ≡ found.is kind mi
resolved-is zero kind mi = refl
resolved-is (suc lo) kind mi = refl

-- other mergeinfo, put before or after
pub resolved-with_mergeinfo : (lo : ℕ) (mi : Option ValueId) (each : Found NameId ValueId) → resolved lo (with_mergeinfo mi each) ≡ with_mergeinfo mi (resolved lo each)
resolved-with_mergeinfo zero mi (found.at [] tick) = refl
resolved-with_mergeinfo zero mi (found.at (c ∷ path) tick) = refl
resolved-with_mergeinfo zero mi (found.at_with [] tick old) = refl
resolved-with_mergeinfo zero mi (found.at_with (c ∷ path) tick old) = refl
resolved-with_mergeinfo zero mi (found.is kind old) = refl
resolved-with_mergeinfo zero mi found.absent = refl
resolved-with_mergeinfo (suc lo) mi each = refl

pub resolved-with_setting : (lo : ℕ) (setting : Setting ValueId) (each : Found NameId ValueId) → resolved lo (with_setting setting each) ≡ with_setting setting (resolved lo each)
resolved-with_setting lo keep each = refl
resolved-with_setting lo (put mi) each = resolved-with_mergeinfo lo mi each

-- ---- nodes with other mergeinfo

own_found-with_mergeinfo : (mi : Option ValueId) (says : OwnEntry) (each : Found NameId ValueId) → own_found (own_with_mergeinfo mi says) each ≡ with_mergeinfo mi (own_found says each)
own_found-with_mergeinfo mi own.AsBase each = refl
own_found-with_mergeinfo mi (own.BaseWithMergeinfo old) (found.at path tick) = refl
own_found-with_mergeinfo mi (own.BaseWithMergeinfo old) (found.at_with path tick older) = refl
own_found-with_mergeinfo mi (own.BaseWithMergeinfo old) (found.is kind older) = refl
own_found-with_mergeinfo mi (own.BaseWithMergeinfo old) found.absent = refl
own_found-with_mergeinfo mi (own.Is kind old) each = refl
own_found-with_mergeinfo mi own.Absent each = refl

-- at the node itself
pub found_at-with_setting : (trie : TrieValue) (setting : Setting ValueId) (node : Node) (over : LookOfNumbers)
    → found_at trie (record { node = Some (node_with_setting setting node); base = over }) ≡ with_setting setting (found_at trie (record { node = Some node; base = over }))
found_at-with_setting trie keep node over = refl
found_at-with_setting trie (put mi) node over = own_found-with_mergeinfo mi node.own _

-- and below it
pub child_at-with_setting : (trie : TrieValue) (setting : Setting ValueId) (node : Node) (over : LookOfNumbers) (name : NameId)
    → child_at trie (record { node = Some (node_with_setting setting node); base = over }) name ≡ child_at trie (record { node = Some node; base = over }) name
child_at-with_setting trie keep node over name = refl
child_at-with_setting trie (put mi) node over name = refl

pub IsNodeOf-with_setting : (trie : TrieValue) (setting : Setting ValueId) (node : Node) → IsNodeOf trie node → IsNodeOf trie (node_with_setting setting node)
IsNodeOf-with_setting trie keep node is = is
IsNodeOf-with_setting trie (put mi) node is = is

-- ---- the actions of records

-- a path below a path
pub found_below-append : (trie : TrieValue) (from : At) (path rest : List NameId) → found_below trie (at_path trie from path) rest ≡ found_below trie from (path ++ rest)
found_below-append trie from path rest = ap (found_at trie) (sym (fold-append (child_at trie) from path rest))

module _ (trees : Trees) (root : Node) (path : List NameId) where
  pub ShowsAction-delete : ShowsAction trees root path delete absent_node
  ShowsAction-delete [] = sym (resolved-absent trees.start)
  ShowsAction-delete (name ∷ rest) =
      found_below-childless trees.trie absent_node.own absent_node.base false (at_path trees.trie (at_root root) path).base name rest ∙ sym (resolved-absent trees.start)

  pub ShowsAction-add : (replace : Bool) (kind : Kind) (setting : Setting ValueId) → ShowsAction trees root path (add replace kind setting) (node_of_kind kind (mergeinfo_after setting None))
  ShowsAction-add replace kind setting [] = sym (resolved-is trees.start kind (mergeinfo_after setting None))
  ShowsAction-add replace kind setting (name ∷ rest) =
      let node = node_of_kind kind (mergeinfo_after setting None) in
      found_below-childless trees.trie node.own node.base node.may_give_mergeinfo_below (at_path trees.trie (at_root root) path).base name rest ∙ sym (resolved-absent trees.start)

  pub ShowsAction-change : (mi : Option ValueId) → ShowsTick trees (end_of_trees trees) root
      → ShowsAction trees root path (change (put mi)) (node_with_mergeinfo mi (unwrap_or (at_path trees.trie (at_root root) path).node untouched))
  ShowsAction-change mi shows [] =
      let from = at_path trees.trie (at_root root) path in
      found_at-with_setting trees.trie (put mi) (unwrap_or from.node untouched) from.base
      ∙ ap (with_mergeinfo mi) (found_at-untouched trees.trie from.node from.base ∙ shows path)
      ∙ ap (λ whole. with_mergeinfo mi (look_in_trees trees (end_of_trees trees) whole)) (sym (append-nil path))
      ∙ sym (resolved-with_mergeinfo trees.start mi (look same_name trees.start trees.records.items (end_of_trees trees) (path ++ [])))
  ShowsAction-change mi shows (name ∷ rest) =
      let from = at_path trees.trie (at_root root) path in
      ap (λ next. found_below trees.trie next rest) (child_at-with_setting trees.trie (put mi) (unwrap_or from.node untouched) from.base name ∙ child_at-untouched trees.trie from.node from.base name)
      ∙ found_below-append trees.trie (at_root root) path (name ∷ rest) ∙ shows (path ++ name ∷ rest)

  pub ShowsAction-copy : (replace : Bool) (source : List NameId) (tick : ℕ) (setting : Setting ValueId) (node : Node) → ShowsPath trees tick source node
      → ShowsAction trees root path (copy replace source tick setting) (node_with_setting setting node)
  ShowsAction-copy replace source tick setting node shows [] =
      let over = (at_path trees.trie (at_root root) path).base in
      found_at-with_setting trees.trie setting node over
      ∙ ap (with_setting setting) (shows over [] ∙ ap (look_in_trees trees tick) (append-nil source))
      ∙ sym (resolved-with_setting trees.start setting (look same_name trees.start trees.records.items tick source))
  ShowsAction-copy replace source tick setting node shows (name ∷ rest) =
      let over = (at_path trees.trie (at_root root) path).base in
      ap (λ next. found_below trees.trie next rest) (child_at-with_setting trees.trie setting node over name) ∙ shows over (name ∷ rest)
