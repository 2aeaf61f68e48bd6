-- The mergeinfo that holds for a path: its own, or what it inherits from the nearest path above it that has some
-- (Subversion book, "Branching and Merging", "Subtree Merges and Subtree Mergeinfo").
use Rattle.std.specs.Prelude.{ℕ, suc, zero, ◌==◌, Bool, List, [], Option, Some, None, bytes_eq, drop, length, option_and_then, option_map, take, if◌then◌else◌}
use Rattle.merge_info.specs.CanonicalValue.{inherited_value, value_of}
use Rattle.merge_info.specs.Value.{MergeInfoValue}
use Rattle.svn_path.specs.Components.{path_text}
use Rattle.svn_dump.specs.Tree.{Tree, entry_at}

-- the mergeinfo that a path has itself
abbrev pub own_mergeinfo : {C M : Type 0} → (C → C → Bool) → Tree C M → List C → Option M
own_mergeinfo same tree path = option_and_then (λ entry. entry.mergeinfo) (entry_at same tree path)

-- the mergeinfo of the first `depth` components of a path
pub record NearestMergeinfo (M : Type 0) : Type 0 where
  pub mergeinfo : M
  pub depth : ℕ

-- the mergeinfo of a path with so many components, or else what was found above it
abbrev pub own_or : {M : Type 0} → Option M → ℕ → Option (NearestMergeinfo M) → Option (NearestMergeinfo M)
own_or None depth above = above
own_or (Some mergeinfo) depth above = Some (record { mergeinfo = mergeinfo; depth = depth })

-- the nearest mergeinfo from the first so many components up to the root
unfoldable pub nearest_from : {C M : Type 0} → (C → C → Bool) → Tree C M → List C → ℕ → Option (NearestMergeinfo M)
nearest_from same tree path zero = own_or (own_mergeinfo same tree (take 0 path)) 0 None
nearest_from same tree path (suc depth) = own_or (own_mergeinfo same tree (take (suc depth) path)) (suc depth) (nearest_from same tree path depth)

-- the nearest mergeinfo of a path
abbrev pub nearest : {C M : Type 0} → (C → C → Bool) → Tree C M → List C → Option (NearestMergeinfo M)
nearest same tree path = nearest_from same tree path (length path)

-- ---- of a history in bytes

-- the value itself, if it is that of the whole path; otherwise what the path inherits of it
abbrev pub own_or_inherited : List (List ℕ) → ℕ → MergeInfoValue → MergeInfoValue
own_or_inherited path depth value = if depth == length path then value else inherited_value (path_text (drop depth path)) value

-- the empty value, if no path up to the root has mergeinfo; none, if the text is malformed
abbrev pub effective_of : List (List ℕ) → Option (NearestMergeinfo (List ℕ)) → Option MergeInfoValue
effective_of path None = Some []
effective_of path (Some found) = option_map (own_or_inherited path found.depth) (value_of found.mergeinfo)

-- the value that holds for a path, unless the text of the nearest is malformed
abbrev pub effective_value : Tree (List ℕ) (List ℕ) → List (List ℕ) → Option MergeInfoValue
effective_value tree path = effective_of path (nearest bytes_eq tree path)

-- the text of the nearest mergeinfo of a path, if there is any
abbrev pub nearest_text : Tree (List ℕ) (List ℕ) → List (List ℕ) → Option (List ℕ)
nearest_text tree path = option_map (λ found. found.mergeinfo) (nearest bytes_eq tree path)
