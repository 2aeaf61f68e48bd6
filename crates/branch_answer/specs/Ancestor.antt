-- The youngest common ancestor of two paths: where they stood as one node (Subversion book, "Peg and operative
-- revisions", "Branching and Merging").
use Rattle.std.specs.Prelude.{ℕ, ◌+◌, List, ◌++◌, Option, Some, None, bytes_eq, codes, decimal, filter_map, option_map, slice_get, if◌then◌else◌}
use Rattle.svn_path.specs.Below.{same_path}
use Rattle.svn_path.specs.Components.{path_text}
use Rattle.svn_dump.specs.Location.{location}
use Rattle.path_index.specs.Operative.{down_from}
use Rattle.query_answer.specs.Answer.{TreesOfBytes}
use Rattle.query_answer.specs.Peg.{Peg}
use Rattle.branch_answer.specs.Life.{PathOfBytes}

-- the one location of both
abbrev pub one_location : Option PathOfBytes → Option PathOfBytes → Option PathOfBytes
one_location None other = None
one_location (Some path) None = None
one_location (Some path) (Some other) = if same_path bytes_eq path other then Some path else None

-- where both stood in a revision, if that was one location
abbrev pub shared_place : TreesOfBytes → Peg → Peg → ℕ → Option (ℕ × PathOfBytes)
shared_place trees one other rev = option_map (λ path. (rev, path))
    (one_location (location bytes_eq trees one.path one.rev rev) (location bytes_eq trees other.path other.rev rev))

-- in the greatest revision in which it was one
abbrev pub ancestor_of : TreesOfBytes → Peg → Peg → Option (ℕ × PathOfBytes)
ancestor_of trees one other = slice_get (filter_map (shared_place trees one other) (down_from (one.rev + 1) one.rev)) 0

-- the revision and the path, or `-` where there is none
abbrev pub ancestor_line : Option (ℕ × PathOfBytes) → List ℕ
ancestor_line None = codes "-"
ancestor_line (Some place) = decimal place.0 ++ codes " " ++ path_text place.1
