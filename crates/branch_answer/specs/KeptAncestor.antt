-- Where two paths stood as one node, as it is found from their location segments.
use Rattle.std.specs.Prelude.{◌≡◌, ◌≢◌, ℕ, ◌≤◌, List, Option, None, Some, All, bytes_eq}
use Rattle.std.specs.Borrow.{Bor}
use Rattle.path_index.specs.Segment.{segments_of}
use Rattle.path_index.specs.declared.segment.Segment.{Segment}
use Rattle.svn_path.specs.Path.{components_of}
use Rattle.svn_path.specs.declared.names.NameId.{NameId}
use Rattle.svn_dump.specs.Dump.{DumpValue, IsDump}
use Rattle.query_answer.specs.Answer.{HasPathOf, segments_in_bytes}
use Rattle.query_answer.specs.Repo.{trees_in_bytes}
use Rattle.query_answer.specs.declared.target.PathRev.{PathRev}
use Rattle.branch_answer.specs.Life.{PathOfBytes}

-- a revision, and a path by the names of a table
abbrev pub shared_in_bytes : List (List ℕ) → ℕ × Bor (List NameId) → ℕ × PathOfBytes
shared_in_bytes names place = (place.0, components_of names place.1.now)

-- ---- two segments

pub record HasRevision (segment : Segment) (rev : ℕ) : Type 0 where
  pub from : segment.lo ≤ rev
  pub to : rev ≤ segment.hi

-- in the greatest revision that is in both segments they have this path
pub record HaveInBoth (one other : Segment) (rev : ℕ) (path : List NameId) : Type 0 where
  pub in_one : HasRevision one rev
  pub in_other : HasRevision other rev
  pub newest : (later : ℕ) → HasRevision one later → HasRevision other later → later ≤ rev
  pub path_of_one : one.path ≡ Some path
  pub path_of_other : other.path ≡ Some path

-- that revision and the path; there is none where no revision is in both, or they have no path in common
abbrev pub IsNewestInBoth : Segment → Segment → Option (ℕ × Bor (List NameId)) → Type 0
IsNewestInBoth one other None =
    (rev : ℕ) (path : List NameId) → HasRevision one rev → HasRevision other rev → one.path ≡ Some path → other.path ≢ Some path
IsNewestInBoth one other (Some place) = HaveInBoth one other place.0 place.1.now

-- ---- two paths

-- these are the segments of a path of the dump in a revision
pub record AreSegmentsAt (dump : DumpValue) (at : PathRev) (segments : List Segment) : Type 0 where
  pub of_names : All (HasPathOf dump.names) segments
  pub exact : segments_in_bytes dump.names segments ≡ segments_of bytes_eq (trees_in_bytes dump) (components_of dump.names at.path) at.rev

-- these are the segments of two paths of the dump
pub record AreSegmentsOfBoth (dump : DumpValue) (at other_at : PathRev) (one other : List Segment) : Type 0 where
  pub kept : IsDump dump
  pub one_are : AreSegmentsAt dump at one
  pub other_are : AreSegmentsAt dump other_at other
