-- The trees of a history, every path of every revision listed (Subversion book, "Revisions" and "Copying branches":
-- a copy makes one entry for each path at its source or below it).
use Rattle.std.specs.Prelude.{ℕ, Bool, not, List, [], ◌∷◌, ◌++◌, Option, Some, None, option_map, fold, filter, filter_map, map, length, is_some, slice_index_or, if◌then◌else◌}
use Rattle.svn_path.specs.Below.{below, is_below, same_path}
use Rattle.svn_dump.specs.History.{Setting, keep, put, Action, delete, change, add, copy, Record, History}
use Rattle.svn_dump.specs.declared.record.Kind.{Kind}
use Rattle.svn_dump.specs.declared.record.Kind.TheVariants.{Dir}

-- a file or a directory, its mergeinfo text, and the path and the smaller revision that it came from
pub record Entry (C M : Type 0) : Type 0 where
  pub kind : Kind
  pub mergeinfo : Option M
  pub origin : Option (List C × ℕ)

abbrev pub Tree : Type 0 → Type 0 → Type 0
Tree C M = List (List C × Entry C M)

-- what stands at a path
unfoldable pub entry_at : {C M : Type 0} → (C → C → Bool) → Tree C M → List C → Option (Entry C M)
entry_at same [] path = None
entry_at same (each ∷ tree) path = if same_path same each.0 path then Some each.1 else entry_at same tree path

abbrev pub is_there : {C M : Type 0} → (C → C → Bool) → Tree C M → List C → Bool
is_there same tree path = is_some (entry_at same tree path)

-- ---- the effect of one record

-- the mergeinfo that a record leaves where there was some or none
abbrev pub mergeinfo_after : {M : Type 0} → Setting M → Option M → Option M
mergeinfo_after keep old = old
mergeinfo_after (put new) old = new

-- the path and all below it taken out
abbrev pub tree_without : {C M : Type 0} → (C → C → Bool) → List C → Tree C M → Tree C M
tree_without same path tree = filter (λ each. not (is_below same path each.0)) tree

-- the mergeinfo of the path as the record gives it, where the path is there
abbrev pub tree_with_mergeinfo : {C M : Type 0} → (C → C → Bool) → List C → Setting M → Tree C M → Tree C M
tree_with_mergeinfo same path setting tree =
    map (λ each. if same_path same each.0 path then (each.0, record each.1 { mergeinfo = mergeinfo_after setting each.1.mergeinfo }) else each) tree

-- an entry of the source tree at its place below the copy, if it is one that the copy takes along
abbrev pub entry_of_copy : {C M : Type 0} → (C → C → Bool) → List C → ℕ → List C → List C × Entry C M → Option (List C × Entry C M)
entry_of_copy same from from_rev path each =
    option_map (λ rest. (path ++ rest, record each.1 { origin = Some (each.0, from_rev) })) (below same from each.0)

-- the tree of a revision; the empty one past the last
abbrev pub tree_of : {C M : Type 0} → List (Tree C M) → ℕ → Tree C M
tree_of trees rev = slice_index_or trees rev []

-- the tree after an addition or a replacement, which takes out what was there
abbrev pub tree_after_add : {C M : Type 0} → (C → C → Bool) → List C → Kind → Setting M → Tree C M → Tree C M
tree_after_add same path kind setting tree =
    tree_without same path tree ++ (path, record { kind = kind; mergeinfo = mergeinfo_after setting None; origin = None }) ∷ []

-- the tree after a copy, given the finished trees of the revisions before
abbrev pub tree_after_copy : {C M : Type 0} → (C → C → Bool) → List (Tree C M) → List C → ℕ → List C → Setting M → Tree C M → Tree C M
tree_after_copy same trees from from_rev path setting tree =
    tree_without same path tree ++ tree_with_mergeinfo same path setting (filter_map (entry_of_copy same from from_rev path) (tree_of trees from_rev))

-- the tree after a record, given the finished trees of the revisions before
unfoldable pub tree_after_action : {C M : Type 0} → (C → C → Bool) → List (Tree C M) → List C → Action C M → Tree C M → Tree C M
tree_after_action same trees path delete tree = tree_without same path tree
tree_after_action same trees path (change setting) tree = tree_with_mergeinfo same path setting tree
tree_after_action same trees path (add replace kind setting) tree = tree_after_add same path kind setting tree
tree_after_action same trees path (copy replace from from_rev setting) tree = tree_after_copy same trees from from_rev path setting tree

abbrev pub tree_after_record : {C M : Type 0} → (C → C → Bool) → List (Tree C M) → Tree C M → Record C M → Tree C M
tree_after_record same trees tree each = tree_after_action same trees each.path each.action tree

-- ---- revisions

-- the root alone
abbrev pub first_tree : {C M : Type 0} → Tree C M
first_tree = ([], record { kind = Dir; mergeinfo = None; origin = None }) ∷ []

-- each path, come from itself in that revision
abbrev pub tree_from_revision : {C M : Type 0} → ℕ → Tree C M → Tree C M
tree_from_revision rev tree = map (λ each. (each.0, record each.1 { origin = Some (each.0, rev) })) tree

-- the tree with which the next revision begins
unfoldable pub start_tree : {C M : Type 0} → List (Tree C M) → Tree C M
start_tree [] = first_tree
start_tree (tree ∷ trees) = tree_from_revision (length trees) (tree_of (tree ∷ trees) (length trees))

-- the tree after the records of one revision
abbrev pub end_tree : {C M : Type 0} → (C → C → Bool) → List (Tree C M) → List (Record C M) → Tree C M
end_tree same trees records = fold (tree_after_record same trees) (start_tree trees) records

abbrev pub with_revision : {C M : Type 0} → (C → C → Bool) → List (Tree C M) → List (Record C M) → List (Tree C M)
with_revision same trees records = trees ++ end_tree same trees records ∷ []

-- the trees of all revisions, revision 0 first
unfoldable pub trees_of : {C M : Type 0} → (C → C → Bool) → History C M → List (Tree C M)
trees_of same history = fold (with_revision same) [] history
