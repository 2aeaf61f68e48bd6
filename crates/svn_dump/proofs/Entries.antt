-- What holds of every entry of a tree, through each operation on trees.
use Rattle.svn_dump.proofs.Common.{ℕ, Bool, List, [], ◌∷◌, ◌++◌, IfSome, filter_map, fold, length, cond_both, All-nil, All-cons, All-head, All-tail, All-append, All-push, All-filter, All-map, All-weaker, cons_option, below, same_path, Setting, Action, delete, change, add, copy, Record, Tree, Entry, entry_at, mergeinfo_after, tree_without, tree_with_mergeinfo, entry_of_copy, tree_of, tree_after_action, tree_after_record, tree_from_revision, start_tree, end_tree, Kind}
use Rattle.std.proofs.Common.{Option, None, Some, All, option_map}
use Rattle.svn_dump.specs.declared.record.Kind.TheVariants.{Dir}
use Rattle.svn_dump.proofs.Trees.{settled_entry, entry_from}

-- it holds of each entry of the tree
abbrev pub AllEntries : {C M : Type 0} → (Entry C M → Type 0) → Tree C M → Type 0
AllEntries P tree = All (λ each. P each.1) tree

module _ {C M : Type 0} (P : Entry C M → Type 0) where
  -- of two trees in a row
  pub AllEntries-append : (xs ys : Tree C M) → AllEntries P xs → AllEntries P ys → AllEntries P (xs ++ ys)
  AllEntries-append xs ys p q = All-append (λ each. P each.1) xs ys p q

  -- of a tree carried on to the next revision
  pub AllEntries-tree_from_revision : (rev : ℕ) (tree : Tree C M) → All (λ each. P (entry_from each.0 rev each.1)) tree → AllEntries P (tree_from_revision rev tree)
  AllEntries-tree_from_revision rev tree p = All-map (λ each. P each.1) _ tree p

module _ {C M : Type 0} (same : C → C → Bool) (P : Entry C M → Type 0) where
  -- and so of what stands at a path
  pub AllEntries-entry_at : (tree : Tree C M) (path : List C) → AllEntries P tree → IfSome (entry_at same tree path) P
  unfolding entry_at
  AllEntries-entry_at [] path p = tt
  AllEntries-entry_at (each ∷ tree) path p =
      cond_both (same_path same each.0 path) (Some each.1) (entry_at same tree path) (λ r. IfSome r P)
      (λ e. All-head (λ each. P each.1) each tree p) (λ e. AllEntries-entry_at tree path (All-tail (λ each. P each.1) each tree p))

  -- of a tree with a path taken out
  pub AllEntries-without : (path : List C) (tree : Tree C M) → AllEntries P tree → AllEntries P (tree_without same path tree)
  AllEntries-without path tree p = All-filter _ (λ each. P each.1) tree p

  -- of a tree with other mergeinfo at a path
  pub AllEntries-changed : (path : List C) (setting : Setting M) (tree : Tree C M) → ((e : Entry C M) → P e → P (settled_entry setting e))
      → AllEntries P tree → AllEntries P (tree_with_mergeinfo same path setting tree)
  AllEntries-changed path setting tree stays p =
      All-map (λ each. P each.1) _ tree (All-weaker (λ each. P each.1) _
      (λ each q. cond_both (same_path same each.0 path) (each.0, settled_entry setting each.1) each (λ r. P r.1) (λ e. stays each.1 q) (λ e. q))
      tree p)

  one_moved : (from : List C) (from_rev : ℕ) (path : List C) (each : List C × Entry C M) (more : Tree C M) → P (entry_from each.0 from_rev each.1)
      → AllEntries P more → AllEntries P (cons_option (entry_of_copy same from from_rev path each) more)
  one_moved from from_rev path each more q p = put_moved (below same from each.0)
    where
      put_moved : (b : Option (List C)) → AllEntries P (cons_option (option_map (λ rest. (path ++ rest, entry_from each.0 from_rev each.1)) b) more)
      put_moved None = p
      put_moved (Some rest) = All-cons (λ each. P each.1) _ more q p

  -- of a copied subtree
  pub AllEntries-entry_of_copy : (from : List C) (from_rev : ℕ) (path : List C) (tree : Tree C M) → All (λ each. P (entry_from each.0 from_rev each.1)) tree
      → AllEntries P (filter_map (entry_of_copy same from from_rev path) tree)
  AllEntries-entry_of_copy from from_rev path [] p = All-nil (λ each. P each.1)
  AllEntries-entry_of_copy from from_rev path (each ∷ tree) p =
      let Q = λ (each : List C × Entry C M). P (entry_from each.0 from_rev each.1) in
      one_moved from from_rev path each _ (All-head Q each tree p) (AllEntries-entry_of_copy from from_rev path tree (All-tail Q each tree p))

-- it holds of what records make of entries: of an entry with another mergeinfo, of a new one, and of one that came from these trees
pub record IsKept {C M : Type 0} (trees : List (Tree C M)) (P : Entry C M → Type 0) : Type 0 where
  pub settles : (setting : Setting M) (e : Entry C M) → P e → P (settled_entry setting e)
  pub fresh : (kind : Kind) (mergeinfo : Option M) → P (record { kind = kind; mergeinfo = mergeinfo; origin = None })
  pub came : (rev : ℕ) → All (λ each. P (entry_from each.0 rev each.1)) (tree_of trees rev)

-- of the tree with which a revision begins
pub AllEntries-start_tree : {C M : Type 0} (trees : List (Tree C M)) (P : Entry C M → Type 0) → IsKept trees P → AllEntries P (start_tree trees)
unfolding start_tree
AllEntries-start_tree [] P kept = All-cons (λ each. P each.1) _ [] (kept.fresh Dir None) (All-nil (λ each. P each.1))
AllEntries-start_tree (tree ∷ trees) P kept = AllEntries-tree_from_revision P (length trees) (tree_of (tree ∷ trees) (length trees)) (kept.came (length trees))

module _ {C M : Type 0} (same : C → C → Bool) (trees : List (Tree C M)) (P : Entry C M → Type 0) (kept : IsKept trees P) where
  -- of the tree after an action
  pub AllEntries-tree_after_action : (path : List C) (action : Action C M) (tree : Tree C M) → AllEntries P tree
      → AllEntries P (tree_after_action same trees path action tree)
  unfolding tree_after_action
  AllEntries-tree_after_action path delete tree p = AllEntries-without same P path tree p
  AllEntries-tree_after_action path (change setting) tree p = AllEntries-changed same P path setting tree (kept.settles setting) p
  AllEntries-tree_after_action path (add replace kind setting) tree p =
      All-push (λ each. P each.1) (tree_without same path tree) _ (AllEntries-without same P path tree p) (kept.fresh kind (mergeinfo_after setting None))
  AllEntries-tree_after_action path (copy replace from from_rev setting) tree p =
      AllEntries-append P (tree_without same path tree) _ (AllEntries-without same P path tree p)
      (AllEntries-changed same P path setting _ (kept.settles setting)
      (AllEntries-entry_of_copy same P from from_rev path (tree_of trees from_rev) (kept.came from_rev)))

  -- of the tree after some records
  pub AllEntries-records : (tree : Tree C M) (records : List (Record C M)) → AllEntries P tree → AllEntries P (fold (tree_after_record same trees) tree records)
  AllEntries-records tree [] p = p
  AllEntries-records tree (each ∷ records) p =
      AllEntries-records (tree_after_record same trees tree each) records (AllEntries-tree_after_action each.path each.action tree p)

  -- of the tree after a revision
  pub AllEntries-end_tree : (records : List (Record C M)) → AllEntries P (end_tree same trees records)
  AllEntries-end_tree records = AllEntries-records (start_tree trees) records (AllEntries-start_tree trees P kept)
