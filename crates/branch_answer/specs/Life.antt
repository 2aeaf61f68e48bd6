-- The lives of a path: the runs of revisions through which it stood as one and the same node (Subversion book, "Peg and
-- operative revisions": a path that was deleted and made anew is another object). A copy of a path from itself one
-- revision earlier ends no life.
use Rattle.std.specs.Prelude.{ℕ, zero, suc, ◌+◌, ◌-◌, ◌==◌, nat_lt, Bool, false, not, ◌&&◌, List, [], ◌∷◌, ◌++◌, Option, Some, None, bytes_eq, codes, decimal, filter, filter_map, flat_map, map, if◌then◌else◌}
use Rattle.std.specs.Cmp.Lexicographic.{slice_cmp}
use Rattle.std.specs.Ordering.{is_lt, nat_cmp}
use Rattle.path_index.specs.Operative.{came_from_itself, down_from}
use Rattle.svn_path.specs.Below.{same_path}
use Rattle.svn_path.specs.Components.{path_text}
use Rattle.svn_dump.specs.Location.{origin_of}
use Rattle.svn_dump.specs.Tree.{Entry, entry_at, is_there, tree_of}
use Rattle.svn_dump.specs.declared.record.Kind.{Kind}
use Rattle.query_answer.specs.Answer.{TreesOfBytes}
use Rattle.branch_answer.specs.Listing.{TreeOfBytes, kind_text}

abbrev pub PathOfBytes : Type 0
PathOfBytes = List (List ℕ)

-- from its first revision to its last one; the place from which it came, if it was copied; and the path at which it
-- went on in the revision after the last, if it was moved there
pub record Life : Type 0 where
  pub first : ℕ
  pub last : ℕ
  pub kind : Kind
  pub origin : Option (PathOfBytes × ℕ)
  pub next : Option PathOfBytes

-- the path is in the tree of the revision and came from itself in the one before
abbrev pub lives_on : TreesOfBytes → PathOfBytes → ℕ → Bool
lives_on trees path rev = came_from_itself bytes_eq path rev (origin_of bytes_eq trees path rev)

-- the last revision of so many after this one up to which the path lives on
unfoldable pub last_from : TreesOfBytes → PathOfBytes → ℕ → ℕ → ℕ
last_from trees path zero rev = rev
last_from trees path (suc more) rev = if lives_on trees path (suc rev) then last_from trees path more (suc rev) else rev

-- ---- where it went on

abbrev pub is_place : PathOfBytes → ℕ → Option (PathOfBytes × ℕ) → Bool
is_place path rev None = false
is_place path rev (Some from) = same_path bytes_eq from.0 path && from.1 == rev

-- the paths of a tree that came from a place
abbrev pub paths_from : TreeOfBytes → PathOfBytes → ℕ → List PathOfBytes
paths_from tree path rev = map (λ each. each.0) (filter (λ each. is_place path rev each.1.origin) tree)

-- the one of two that is first in the order of the bytes
abbrev pub earlier_of : PathOfBytes → Option PathOfBytes → PathOfBytes
earlier_of path None = path
earlier_of path (Some other) = if is_lt (slice_cmp nat_cmp (path_text other) (path_text path)) then other else path

-- the first path in the order of the bytes
unfoldable pub first_path : List PathOfBytes → Option PathOfBytes
first_path [] = None
first_path (path ∷ paths) = Some (earlier_of path (first_path paths))

-- the first path to which a path went from this revision, if it isn't in the next one, which is up to the top
abbrev pub next_path : TreesOfBytes → PathOfBytes → ℕ → ℕ → Option PathOfBytes
next_path trees path top last =
    if nat_lt last top && not (is_there bytes_eq (tree_of trees (last + 1)) path)
    then first_path (paths_from (tree_of trees (last + 1)) path last) else None

-- ---- all lives

-- the life up to the top that begins with this entry in a revision
abbrev pub life_from : TreesOfBytes → PathOfBytes → ℕ → ℕ → Entry (List ℕ) (List ℕ) → Life
life_from trees path top first entry =
    let last = last_from trees path (top - first) first in
    record { first = first; last = last; kind = entry.kind; origin = entry.origin; next = next_path trees path top last }

-- the life that begins in a revision: the path is there and did not live on from the one before
abbrev pub life_at : TreesOfBytes → PathOfBytes → ℕ → ℕ → Option Life
life_at trees path top first =
    elim (entry_at bytes_eq (tree_of trees first) path) [
      | None ↦ None
      | Some entry ↦ if lives_on trees path first then None else Some (life_from trees path top first entry)
    ]

-- the lives up to a revision, the newest first
unfoldable pub lives_of : TreesOfBytes → PathOfBytes → ℕ → List Life
lives_of trees path top = filter_map (life_at trees path top) (down_from (top + 1) top)

-- ---- lines

-- the revisions and the kind
abbrev pub life_line : Life → List ℕ
life_line life = decimal life.first ++ codes "-" ++ decimal life.last ++ codes " " ++ kind_text life.kind

-- a word, a revision and a path
abbrev pub place_line : List ℕ → ℕ → PathOfBytes → List ℕ
place_line word rev path = word ++ decimal rev ++ codes " " ++ path_text path

abbrev pub origin_lines : Option (PathOfBytes × ℕ) → List (List ℕ)
origin_lines None = []
origin_lines (Some from) = place_line (codes "from ") from.1 from.0 ∷ []

abbrev pub next_lines : ℕ → Option PathOfBytes → List (List ℕ)
next_lines last None = []
next_lines last (Some path) = place_line (codes "to ") (last + 1) path ∷ []

abbrev pub lines_of_life : Life → List (List ℕ)
lines_of_life life = life_line life ∷ origin_lines life.origin ++ next_lines life.last life.next

abbrev pub lives_lines : List Life → List (List ℕ)
lives_lines lives = flat_map lines_of_life lives
