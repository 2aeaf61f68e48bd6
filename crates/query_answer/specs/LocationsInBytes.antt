-- Where the paths of a dump stood in other revisions, and the revisions that name or change them, in bytes (Subversion
-- book, "Peg and operative revisions" and "Examining history").
use Rattle.std.specs.Prelude.{ℕ, ◌-◌, Bool, List, Option, Some, bytes_eq, filter, map}
use Rattle.svn_path.specs.Path.{components_of}
use Rattle.svn_path.specs.declared.names.NameId.{NameId}
use Rattle.svn_dump.specs.Dump.{DumpValue, history_in_bytes}
use Rattle.svn_dump.specs.Location.{location}
use Rattle.path_index.specs.Operative.{down_from, names_below, records_in}
use Rattle.path_index.specs.Range.{is_in_range}
use Rattle.path_index.specs.Segment.{Segment, segments_of}
use Rattle.query_answer.specs.Answer.{operative_locations}
use Rattle.query_answer.specs.Repo.{peg_in_bytes, trees_in_bytes}
use Rattle.query_answer.specs.declared.target.PathRev.{PathRev}

-- where a path of the dump stood in another revision
abbrev pub location_of_path : DumpValue → PathRev → ℕ → Option (List (List ℕ))
location_of_path dump at rev = location bytes_eq (trees_in_bytes dump) (components_of dump.names at.path) at.rev rev

-- the segments of a path of the dump
abbrev pub segments_of_path : DumpValue → PathRev → List (Segment (List ℕ))
segments_of_path dump at = segments_of bytes_eq (trees_in_bytes dump) (components_of dump.names at.path) at.rev

-- a record of the revision names the path or a path below it
abbrev pub is_named_in_bytes : DumpValue → List NameId → ℕ → Bool
is_named_in_bytes dump path rev =
    names_below bytes_eq (components_of dump.names path) (records_in (history_in_bytes dump) rev)

-- the revisions after `above` and up to `up_to` that name it, the newest first
abbrev pub named_in_bytes : DumpValue → List NameId → ℕ → ℕ → List ℕ
named_in_bytes dump path above up_to = filter (is_named_in_bytes dump path) (down_from (up_to - above) up_to)

-- the revisions that are operative on the location of a path in them, the newest first
abbrev pub all_operative_in_bytes : DumpValue → PathRev → List ℕ
all_operative_in_bytes dump at =
    map (λ found. found.1) (operative_locations (history_in_bytes dump) (trees_in_bytes dump) (peg_in_bytes dump at))

-- and those in a range
abbrev pub operative_in_bytes : DumpValue → PathRev → ℕ × ℕ → List ℕ
operative_in_bytes dump at range = filter (λ rev. is_in_range (Some range) rev) (all_operative_in_bytes dump at)
