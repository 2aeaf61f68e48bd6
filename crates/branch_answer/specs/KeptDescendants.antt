-- Descendants of a path of a dump as they are found: where the copies of the later revisions took the path.
use Rattle.std.specs.Prelude.{◌≡◌, ℕ, ◌&&◌, ◌++◌, nat_le, All, Bool, List, [], ◌∷◌, Option, filter_map, fold, map, option_map, if◌then◌else◌}
use Rattle.std.specs.BTreeSet.{insert_key}
use Rattle.std.specs.Cmp.Lexicographic.{slice_cmp}
use Rattle.svn_path.specs.Below.{below}
use Rattle.svn_path.specs.Components.{path_text}
use Rattle.svn_path.specs.Path.{IsPathOf, components_of, same_name}
use Rattle.svn_path.specs.PathOrder.{name_cmp}
use Rattle.svn_path.specs.declared.names.NameId.{NameId}
use Rattle.svn_dump.specs.Dump.{DumpValue}
use Rattle.path_index.specs.Copies.{Copy, copies_between}
use Rattle.query_answer.specs.Repo.{peg_in_bytes, trees_in_bytes}
use Rattle.query_answer.specs.declared.target.PathRev.{PathRev}
use Rattle.branch_answer.specs.Descendants.{descendants_of, stood_at}
use Rattle.branch_answer.specs.Presence.{is_present}

-- where a copy takes a path, if the path is at or below its source
abbrev pub place_by_copy : Copy → List NameId → Option (List NameId)
place_by_copy copy path = option_map (λ rest. copy.to ++ rest) (below same_name copy.from path)

abbrev pub places_by_copy : Copy → List (List NameId) → List (List NameId)
places_by_copy copy paths = filter_map (place_by_copy copy) paths

-- paths in their order, each once, with others
abbrev pub with_paths : List (List NameId) → List (List NameId) → List (List NameId)
with_paths paths more = fold (insert_key (slice_cmp name_cmp)) paths more

-- the places so far, and where a copy takes them, unless its source is of a revision before the first
abbrev pub places_after : ℕ → List (List NameId) → Copy → List (List NameId)
places_after first places copy =
    if nat_le first copy.from_rev then with_paths places (places_by_copy copy places) else places

-- the path of a revision, and where copies take it
abbrev pub places_from : List NameId → ℕ → List Copy → List (List NameId)
places_from path first copies = fold (places_after first) (path ∷ []) copies

-- where the copies of the revisions up to another one take a path of a revision
abbrev pub places_in : DumpValue → PathRev → ℕ → List (List NameId)
places_in dump at rev = places_from at.path at.rev (copies_between at.rev rev dump.records)

-- whether a path is in the tree of a revision, and stood at the place
abbrev pub is_descendant : DumpValue → PathRev → ℕ → List NameId → Bool
is_descendant dump at rev path =
    is_present dump path rev && stood_at (trees_in_bytes dump) (peg_in_bytes dump at) rev (components_of dump.names path)

-- the texts of paths
abbrev pub path_texts : List (List ℕ) → List (List NameId) → List (List ℕ)
path_texts names paths = map (λ path. path_text (components_of names path)) paths

-- these are the descendants in a revision, in the order of their bytes
pub record AreDescendantsIn (dump : DumpValue) (at : PathRev) (rev : ℕ) (paths : List (List NameId)) : Type 0 where
  pub of_names : All (IsPathOf dump.names) paths
  pub are : path_texts dump.names paths ≡ descendants_of (trees_in_bytes dump) (peg_in_bytes dump at) rev
