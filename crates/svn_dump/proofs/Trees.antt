-- What a tree has at one path, after each operation on trees and after each action of a record.
use Rattle.svn_dump.proofs.Common.{◌≡◌, ℕ, Bool, false, not, if◌then◌else◌, List, [], ◌∷◌, ◌++◌, filter_map, refl, ap, ◌∙◌, arith, option_or, option_map_or, below, is_below, same_path, Setting, Action, delete, change, add, copy, Tree, Entry, entry_at, mergeinfo_after, tree_without, tree_with_mergeinfo, entry_of_copy, tree_of, tree_after_action, first_tree, tree_from_revision, Kind, IsSame, below-itself, same_path-is}
use Rattle.std.proofs.Common.{Option, None, Some, is_some, option_map, filter}
use Rattle.svn_dump.specs.declared.record.Kind.TheVariants.{Dir}
use Rattle.svn_dump.proofs.Belows.{same_path_front, same_path_by_below, same_path_comm, same_path_moved, other_from_below, apart_from_below}

-- the entry with the mergeinfo that a record leaves
abbrev pub settled_entry : {C M : Type 0} → Setting M → Entry C M → Entry C M
settled_entry setting e = record e { mergeinfo = mergeinfo_after setting e.mergeinfo }

-- the entry at the record's path with that mergeinfo, given what is left of the entry's path below that; another entry
-- stays
abbrev pub settled_entry_at : {C M : Type 0} → Setting M → List C → Entry C M → Entry C M
settled_entry_at setting [] e = settled_entry setting e
settled_entry_at setting (c ∷ rest) e = e

-- the entry, come from this path of this revision
abbrev pub entry_from : {C M : Type 0} → List C → ℕ → Entry C M → Entry C M
entry_from from rev e = record e { origin = Some (from, rev) }

-- what an addition puts at its path
abbrev pub new_entry : {C M : Type 0} → Kind → Setting M → Entry C M
new_entry kind setting = record { kind = kind; mergeinfo = mergeinfo_after setting None; origin = None }

-- what it leaves there and below
abbrev pub added_entry : {C M : Type 0} → Kind → Setting M → List C → Option (Entry C M)
added_entry kind setting [] = Some (new_entry kind setting)
added_entry kind setting (c ∷ rest) = None

-- what a copy leaves there and below, of its source tree
abbrev pub copied_entry : {C M : Type 0} → (C → C → Bool) → Tree C M → List C → ℕ → Setting M → List C → Option (Entry C M)
copied_entry same source from from_rev setting rest =
    option_map (λ e. settled_entry_at setting rest (entry_from (from ++ rest) from_rev e)) (entry_at same source (from ++ rest))

-- what an action leaves at its path and below it, where there was some entry or none
abbrev pub entry_left : {C M : Type 0} → (C → C → Bool) → List (Tree C M) → Action C M → Option (Entry C M) → List C → Option (Entry C M)
entry_left same trees delete old rest = None
entry_left same trees (change setting) old rest = option_map (settled_entry_at setting rest) old
entry_left same trees (add replace kind setting) old rest = added_entry kind setting rest
entry_left same trees (copy replace from from_rev setting) old rest = copied_entry same (tree_of trees from_rev) from from_rev setting rest

module _ {C M : Type 0} (same : C → C → Bool) where
  -- an empty tree has nothing
  pub entry_at-nil : (at : List C) → entry_at {M = M} same [] at ≡ None
  unfolding entry_at
  entry_at-nil at = refl

  -- the first tree has the root alone
  pub entry_at-first_tree : (at : List C)
      → entry_at {M = M} same first_tree at ≡ (if same_path same [] at then Some (record { kind = Dir; mergeinfo = None; origin = None }) else None)
  unfolding entry_at
  entry_at-first_tree at = refl

  -- two trees in a row
  pub entry_at-append : (xs ys : Tree C M) (at : List C) → entry_at same (xs ++ ys) at ≡ option_or (entry_at same xs at) (entry_at same ys at)
  unfolding entry_at
  entry_at-append [] ys at = refl
  entry_at-append (x ∷ xs) ys at = grind (arith, entry_at-append xs ys at)

  settled_twice : (setting : Setting M) (from : List C) (from_rev : ℕ) (rest : List C) (old : Option (Entry C M))
      → (if same_path same rest [] then option_map (settled_entry setting) (option_map (entry_from (from ++ rest) from_rev) old)
      else option_map (entry_from (from ++ rest) from_rev) old)
      ≡ option_map (λ e. settled_entry_at setting rest (entry_from (from ++ rest) from_rev e)) old
  settled_twice setting from from_rev [] None = refl
  settled_twice setting from from_rev [] (Some e) = refl
  settled_twice setting from from_rev (c ∷ rest) None = refl
  settled_twice setting from from_rev (c ∷ rest) (Some e) = refl

  changed_by : (setting : Setting M) (b : Option (List C)) (old : Option (Entry C M))
      → (if option_map_or (λ rest. same_path same rest []) b false then option_map (settled_entry setting) old else old)
      ≡ option_map_or (λ rest. option_map (settled_entry_at setting rest) old) b old
  changed_by setting None old = refl
  changed_by setting (Some []) old = refl
  changed_by setting (Some (c ∷ rest)) None = refl
  changed_by setting (Some (c ∷ rest)) (Some e) = refl

  added_by : (kind : Kind) (setting : Setting M) (b : Option (List C)) (old : Option (Entry C M))
      → (if option_map_or (λ rest. same_path same rest []) b false then added_entry kind setting [] else (if is_some b then None else old))
      ≡ option_map_or (added_entry kind setting) b old
  added_by kind setting None old = refl
  added_by kind setting (Some []) old = refl
  added_by kind setting (Some (c ∷ rest)) old = refl

module _ {C M : Type 0} (same : C → C → Bool) (is : IsSame same) where
  -- a tree of the entries whose paths pass a test
  pub entry_at-filter : (test : List C → Bool) (tree : Tree C M) (at : List C)
      → entry_at same (filter (λ each. test each.0) tree) at ≡ (if test at then entry_at same tree at else None)
  unfolding entry_at
  entry_at-filter test [] at = grind arith
  entry_at-filter test (each ∷ tree) at = grind (arith, (same_path-is is each.0 at).0, entry_at-filter test tree at)

  -- a path taken out, with all below it
  pub entry_at-without : (path : List C) (tree : Tree C M) (at : List C)
      → entry_at same (tree_without same path tree) at ≡ (if is_below same path at then None else entry_at same tree at)
  unfolding entry_at
  entry_at-without path tree at = grind (arith, entry_at-filter (λ p. not (is_below same path p)) tree at)

  -- other mergeinfo at a path
  pub entry_at-changed : (path : List C) (setting : Setting M) (tree : Tree C M) (at : List C)
      → entry_at same (tree_with_mergeinfo same path setting tree) at
      ≡ (if same_path same at path then option_map (settled_entry setting) (entry_at same tree at) else entry_at same tree at)
  unfolding entry_at
  entry_at-changed path setting [] at = grind arith
  entry_at-changed path setting (each ∷ tree) at = grind (arith, (same_path-is is each.0 at).0, entry_at-changed path setting tree at)

  -- each entry come from itself in the revision before
  pub entry_at-tree_from_revision : (rev : ℕ) (tree : Tree C M) (at : List C)
      → entry_at same (tree_from_revision rev tree) at ≡ option_map (entry_from at rev) (entry_at same tree at)
  unfolding entry_at
  entry_at-tree_from_revision rev [] at = refl
  entry_at-tree_from_revision rev (each ∷ tree) at = grind (arith, (same_path-is is each.0 at).0, entry_at-tree_from_revision rev tree at)

  -- the copied subtree has nothing that is not under the copy's path
  pub entry_at-moved_apart : (from : List C) (from_rev : ℕ) (path : List C) (tree : Tree C M) (at : List C) → below same path at ≡ None
      → entry_at same (filter_map (entry_of_copy same from from_rev path) tree) at ≡ None
  unfolding entry_at
  entry_at-moved_apart from from_rev path [] at apart = refl
  entry_at-moved_apart from from_rev path (each ∷ tree) at apart =
      grind (arith, other_from_below same is path at, entry_at-moved_apart from from_rev path tree at)

  -- and what the source has, at the place that is as far under the copy's path
  pub entry_at-moved_under : (from : List C) (from_rev : ℕ) (path : List C) (tree : Tree C M) (at rest : List C) → below same path at ≡ Some rest
      → entry_at same (filter_map (entry_of_copy same from from_rev path) tree) at
      ≡ option_map (entry_from (from ++ rest) from_rev) (entry_at same tree (from ++ rest))
  unfolding entry_at
  entry_at-moved_under from from_rev path [] at rest under = refl
  entry_at-moved_under from from_rev path (each ∷ tree) at rest under =
      let more = entry_at-moved_under from from_rev path tree at rest under in
      let found = (same_path-is is each.0 (from ++ rest)).0 in
      grind (arith, same_path_moved same is from path each.0 at, apart_from_below same is from each.0 rest, found, more)

  -- ---- actions

  module _ (trees : List (Tree C M)) (path : List C) where
    -- nothing at the path or below it
    pub entry_at-delete : (tree : Tree C M) (at : List C)
        → entry_at same (tree_after_action same trees path delete tree) at ≡ (if is_below same path at then None else entry_at same tree at)
    unfolding tree_after_action
    entry_at-delete tree at = entry_at-without path tree at

    -- other mergeinfo at the path
    pub entry_at-change : (setting : Setting M) (tree : Tree C M) (at : List C)
        → entry_at same (tree_after_action same trees path (change setting) tree) at
        ≡ (if same_path same at path then option_map (settled_entry setting) (entry_at same tree at) else entry_at same tree at)
    unfolding tree_after_action
    entry_at-change setting tree at = entry_at-changed path setting tree at

    -- the new entry at the path, and nothing below it
    pub entry_at-add : (replace : Bool) (kind : Kind) (setting : Setting M) (tree : Tree C M) (at : List C)
        → entry_at same (tree_after_action same trees path (add replace kind setting) tree) at
        ≡ (if same_path same path at then Some (new_entry kind setting)
        else (if is_below same path at then None else entry_at same tree at))
    unfolding tree_after_action entry_at
    entry_at-add replace kind setting tree at =
        let both = entry_at-append same (tree_without same path tree) ((path, new_entry kind setting) ∷ []) at in
        grind (arith, both, entry_at-without path tree at, (same_path-is is path at).0, ap is_some (below-itself is path))

    copied_under : (source : Tree C M) (from : List C) (from_rev : ℕ) (setting : Setting M) (at rest : List C) → below same path at ≡ Some rest
        → entry_at same (tree_with_mergeinfo same path setting (filter_map (entry_of_copy same from from_rev path) source)) at
        ≡ copied_entry same source from from_rev setting rest
    copied_under source from from_rev setting at rest under =
        let whole = filter_map (entry_of_copy same from from_rev path) source in
        let front = same_path_front same is path at rest under in
        let came = entry_at-moved_under from from_rev path source at rest under in
        entry_at-changed path setting whole at
        ∙ (λ i. if front i then option_map (settled_entry setting) (came i) else came i)
        ∙ settled_twice same setting from from_rev rest (entry_at same source (from ++ rest))

    copied_apart : (source : Tree C M) (from : List C) (from_rev : ℕ) (setting : Setting M) (at : List C) → below same path at ≡ None
        → entry_at same (tree_with_mergeinfo same path setting (filter_map (entry_of_copy same from from_rev path) source)) at ≡ None
    copied_apart source from from_rev setting at apart =
        let whole = filter_map (entry_of_copy same from from_rev path) source in
        grind (arith, entry_at-changed path setting whole at, entry_at-moved_apart from from_rev path source at)

    -- what the source has, at the path and below it
    pub entry_at-copy : (replace : Bool) (from : List C) (from_rev : ℕ) (setting : Setting M) (tree : Tree C M) (at : List C)
        → entry_at same (tree_after_action same trees path (copy replace from from_rev setting) tree) at
        ≡ option_map_or (copied_entry same (tree_of trees from_rev) from from_rev setting) (below same path at) (entry_at same tree at)
    unfolding tree_after_action
    entry_at-copy replace from from_rev setting tree at =
        let source = tree_of trees from_rev in
        let whole = tree_with_mergeinfo same path setting (filter_map (entry_of_copy same from from_rev path) source) in
        let both = entry_at-append same (tree_without same path tree) whole at in
        let under = copied_under source from from_rev setting at in
        grind (arith, both, entry_at-without path tree at, under, copied_apart source from from_rev setting at)

    -- what the tree after an action has at a path, by what is left of that path under the record's
    pub entry_at-tree_after_action : (action : Action C M) (tree : Tree C M) (at : List C)
        → entry_at same (tree_after_action same trees path action tree) at
        ≡ option_map_or (entry_left same trees action (entry_at same tree at)) (below same path at) (entry_at same tree at)
    entry_at-tree_after_action delete tree at = grind (arith, entry_at-delete tree at)
    entry_at-tree_after_action (change setting) tree at =
        let old = entry_at same tree at in
        entry_at-change setting tree at
        ∙ ap (λ b. if b then option_map (settled_entry setting) old else old) (same_path_by_below same is path at)
        ∙ changed_by same setting (below same path at) old
    entry_at-tree_after_action (add replace kind setting) tree at =
        let old = entry_at same tree at in
        let test = same_path_comm same is path at ∙ same_path_by_below same is path at in
        entry_at-add replace kind setting tree at
        ∙ ap (λ b. if b then added_entry kind setting [] else (if is_below same path at then None else old)) test
        ∙ added_by same kind setting (below same path at) old
    entry_at-tree_after_action (copy replace from from_rev setting) tree at = entry_at-copy replace from from_rev setting tree at

    -- an action leaves what is not under its path
    pub entry_at-elsewhere : (action : Action C M) (tree : Tree C M) (at : List C) → below same path at ≡ None
        → entry_at same (tree_after_action same trees path action tree) at ≡ entry_at same tree at
    entry_at-elsewhere action tree at apart =
        let old = entry_at same tree at in
        entry_at-tree_after_action action tree at ∙ ap (λ b. option_map_or (entry_left same trees action old) b old) apart

    -- and makes this of what is
    pub entry_at-under : (action : Action C M) (tree : Tree C M) (at rest : List C) → below same path at ≡ Some rest
        → entry_at same (tree_after_action same trees path action tree) at ≡ entry_left same trees action (entry_at same tree at) rest
    entry_at-under action tree at rest under =
        let old = entry_at same tree at in
        entry_at-tree_after_action action tree at ∙ ap (λ b. option_map_or (entry_left same trees action old) b old) under
