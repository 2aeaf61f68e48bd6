-- Where the entries of a history's trees came from: from smaller revisions, and from paths that are there.
use Rattle.svn_dump.proofs.Common.{◌≡◌, ℕ, ◌<◌, ⊎_elim, Bool, true, false, if◌then◌else◌, List, [], ◌∷◌, ◌++◌, IfSome, fold, length, refl, sym, ap, subst, ◌∙◌, arith, true≢false, cases_lt, All-nil, All-cons, All-weaker, IfSome_then, same_path, History, origin_of, Tree, Entry, entry_at, is_there, tree_of, end_tree, with_revision, trees_of, IsSame, IsSame-same_path}
use Rattle.std.proofs.Common.{Option, None, Some, All, is_some, option_and_then}
use Rattle.svn_dump.proofs.Entries.{AllEntries, AllEntries-entry_at, IsKept, AllEntries-end_tree}
use Rattle.svn_dump.proofs.Revisions.{tree_of-append, tree_of_past, each_tree_push}
use Rattle.svn_dump.proofs.Trees.{entry_from}

-- each origin is of a smaller revision
pub record OriginsFall {C M : Type 0} (same : C → C → Bool) (trees : List (Tree C M)) : Type 0 where
  pub falls : (path : List C) (rev : ℕ) (from : List C) (from_rev : ℕ) → origin_of same trees path rev ≡ Some (from, from_rev) → from_rev < rev

-- ---- an origin is of a smaller revision

abbrev ComesFromBelow : {C M : Type 0} → ℕ → Entry C M → Type 0
ComesFromBelow rev e = IfSome e.origin (λ from. from.1 < rev)

abbrev AllFall : {C M : Type 0} → List (Tree C M) → Type 0
AllFall trees = (rev : ℕ) → AllEntries (ComesFromBelow rev) (tree_of trees rev)

nothing_falls : {C M : Type 0} (rev : ℕ) → AllEntries {C = C} {M = M} (ComesFromBelow rev) []
nothing_falls {C} {M} rev = All-nil (λ (each : List C × Entry C M). ComesFromBelow rev each.1)

module _ {C M : Type 0} (trees : List (Tree C M)) where
  came_below : (rev : ℕ) → All (λ each. ComesFromBelow (length trees) (entry_from each.0 rev each.1)) (tree_of trees rev)
  came_below rev =
      let P = λ (each : List C × Entry C M). ComesFromBelow (length trees) (entry_from each.0 rev each.1) in
      ⊎_elim (λ before k d within. before) (λ past. subst (All P) (sym (tree_of_past trees rev past)) (All-nil P))
      (cases_lt rev (length trees))

  kept_below : IsKept trees (ComesFromBelow (length trees))
  kept_below = record { settles = λ setting e p. p; fresh = λ kind mergeinfo. tt; came = came_below }

module _ {C M : Type 0} (same : C → C → Bool) where
  all_revisions_fall : (trees : List (Tree C M)) (history : History C M) → AllFall trees → AllFall (fold (with_revision same) trees history)
  all_revisions_fall trees [] all = all
  all_revisions_fall trees (records ∷ history) all =
      let last = AllEntries-end_tree same trees (ComesFromBelow (length trees)) (kept_below trees) records in
      all_revisions_fall (with_revision same trees records) history
      (each_tree_push (λ rev tree. AllEntries (ComesFromBelow rev) tree) trees (end_tree same trees records) nothing_falls all last)

  falls_from_entry : (rev : ℕ) (from : List C) (from_rev : ℕ) (o : Option (Entry C M)) → IfSome o (ComesFromBelow rev)
      → option_and_then (λ entry. entry.origin) o ≡ Some (from, from_rev) → from_rev < rev
  falls_from_entry rev from from_rev None p e = grind arith
  falls_from_entry rev from from_rev (Some entry) p e = subst (λ o. IfSome o (λ from. from.1 < rev)) e p

  -- so it is in the trees of every history
  pub OriginsFall-trees_of : (history : History C M) → OriginsFall same (trees_of same history)
  unfolding trees_of
  OriginsFall-trees_of history = record {
    falls = λ path rev from from_rev e.
        let tree = tree_of (trees_of same history) rev in
        let all : AllEntries (ComesFromBelow rev) tree = all_revisions_fall [] history nothing_falls rev in
        falls_from_entry rev from from_rev (entry_at same tree path) (AllEntries-entry_at same (ComesFromBelow rev) tree path all) e;
  }

-- ---- what an origin names is there

-- each origin is a path of the tree of its revision
pub record OriginsAreThere {C M : Type 0} (same : C → C → Bool) (trees : List (Tree C M)) : Type 0 where
  pub there : (path : List C) (rev : ℕ) (from : List C) (from_rev : ℕ) → origin_of same trees path rev ≡ Some (from, from_rev)
      → is_there same (tree_of trees from_rev) from ≡ true

abbrev CameFromThere : {C M : Type 0} → (C → C → Bool) → List (Tree C M) → Entry C M → Type 0
CameFromThere same trees e = IfSome e.origin (λ from. is_there same (tree_of trees from.1) from.0 ≡ true)

abbrev AllCameFromThere : {C M : Type 0} → (C → C → Bool) → List (Tree C M) → Type 0
AllCameFromThere same trees = (rev : ℕ) → AllEntries (CameFromThere same trees) (tree_of trees rev)

nothing_came : {C M : Type 0} (same : C → C → Bool) (trees : List (Tree C M)) → AllEntries (CameFromThere same trees) []
nothing_came {C} {M} same trees = All-nil (λ (each : List C × Entry C M). CameFromThere same trees each.1)

there_still : {X : Type 0} (b : Bool) (x : X) (o : Option X) → is_some o ≡ true → is_some (if b then Some x else o) ≡ true
there_still true x o there = refl
there_still false x o there = there

module _ {C M : Type 0} (same : C → C → Bool) (is : IsSame same) where
  all_there : (tree : Tree C M) → All (λ each. is_there same tree each.0 ≡ true) tree
  unfolding entry_at
  all_there [] = All-nil (λ (each : List C × Entry C M). is_there {C = C} {M = M} same [] each.0 ≡ true)
  all_there (each ∷ tree) =
      let P = λ (other : List C × Entry C M). is_there same (each ∷ tree) other.0 ≡ true in
      All-cons P each tree (ap (λ b. is_some (if b then Some each.1 else entry_at same tree each.0)) ((IsSame-same_path is).itself each.0))
      (All-weaker (λ other. is_there same tree other.0 ≡ true) P
      (λ other there. there_still (same_path same each.0 other.0) each.1 (entry_at same tree other.0) there) tree (all_there tree))

  kept_there : (trees : List (Tree C M)) → IsKept trees (CameFromThere same trees)
  kept_there trees = record { settles = λ setting e p. p; fresh = λ kind mergeinfo. tt; came = λ rev. all_there (tree_of trees rev) }

  there_within : (trees : List (Tree C M)) (path : List C) (rev : ℕ) → is_there same (tree_of trees rev) path ≡ true → rev < length trees
  unfolding entry_at
  there_within trees path rev there =
      ⊎_elim (λ before. before)
      (λ past. absurd (true≢false (sym there ∙ ap (λ tree. is_there same tree path) (tree_of_past trees rev past))))
      (cases_lt rev (length trees))

  there_append : (trees more : List (Tree C M)) (e : Entry C M) → CameFromThere same trees e → CameFromThere same (trees ++ more) e
  there_append trees more e p =
      IfSome_then e.origin p (λ from there.
      ap (λ tree. is_there same tree from.0) (tree_of-append trees more from.1 (there_within trees from.0 from.1 there)) ∙ there)

  all_append : (trees more : List (Tree C M)) (tree : Tree C M) → AllEntries (CameFromThere same trees) tree
      → AllEntries (CameFromThere same (trees ++ more)) tree
  all_append trees more tree p =
      All-weaker (λ each. CameFromThere same trees each.1) (λ each. CameFromThere same (trees ++ more) each.1)
      (λ each. there_append trees more each.1) tree p

  all_revisions_there : (trees : List (Tree C M)) (history : History C M) → AllCameFromThere same trees
      → AllCameFromThere same (fold (with_revision same) trees history)
  all_revisions_there trees [] all = all
  all_revisions_there trees (records ∷ history) all =
      let next = with_revision same trees records in
      let tree = end_tree same trees records in
      let last = AllEntries-end_tree same trees (CameFromThere same trees) (kept_there trees) records in
      all_revisions_there next history
      (each_tree_push (λ rev t. AllEntries (CameFromThere same next) t) trees tree (λ rev. nothing_came same next)
      (λ rev. all_append trees (tree ∷ []) (tree_of trees rev) (all rev)) (all_append trees (tree ∷ []) tree last))

  there_from_entry : (trees : List (Tree C M)) (from : List C) (from_rev : ℕ) (o : Option (Entry C M)) → IfSome o (CameFromThere same trees)
      → option_and_then (λ entry. entry.origin) o ≡ Some (from, from_rev) → is_there same (tree_of trees from_rev) from ≡ true
  there_from_entry trees from from_rev None p e = grind arith
  there_from_entry trees from from_rev (Some entry) p e = subst (λ o. IfSome o (λ from. is_there same (tree_of trees from.1) from.0 ≡ true)) e p

  -- so it is in the trees of every history
  pub OriginsAreThere-trees_of : (history : History C M) → OriginsAreThere same (trees_of same history)
  unfolding trees_of
  OriginsAreThere-trees_of history = record {
    there = λ path rev from from_rev e.
        let trees = trees_of same history in
        let tree = tree_of trees rev in
        let all : AllEntries (CameFromThere same trees) tree = all_revisions_there [] history (λ rev. nothing_came same []) rev in
        there_from_entry trees from from_rev (entry_at same tree path) (AllEntries-entry_at same (CameFromThere same trees) tree path all) e;
  }
