-- What an index holds, and what its answers say of it.
use Rattle.std.specs.Prelude.{◌≡◌, ℕ, ◌+◌, ◌-◌, nat_lt, if◌then◌else◌, List, [], ◌∷◌, Option, None, IsTrue, filter, map}
use Rattle.svn_path.specs.Path.{same_name}
use Rattle.svn_path.specs.declared.names.NameId.{NameId}
use Rattle.svn_dump.specs.Location.{location}
use Rattle.svn_dump.specs.Tree.{is_there, tree_of}
use Rattle.svn_dump.specs.declared.record.NodeRecord.{NodeRecord}
use Rattle.path_index.specs.History.{AreRising, history_to, trees_to}
use Rattle.path_index.specs.Operative.{operative_of}
use Rattle.path_index.specs.Range.{is_in_range}
use Rattle.path_index.specs.Segment.{AreSegments, Segment, segments_of}
use Rattle.path_index.specs.declared.segment.Hit.{Hit}
use Rattle.path_index.specs.declared.segment.Segment.{Segment as KeptSegment}

-- the records of an index, and how many others precede them
pub record IndexValue : Type 0 where
  pub records : List NodeRecord
  pub first : ℕ

-- the index is of a whole history
pub record IsWhole (index : IndexValue) : Type 0 where
  pub first : index.first ≡ 0
  pub rising : AreRising index.records

-- the path is in the tree of the revision
abbrev pub IsThere : List NodeRecord → List NameId → ℕ → Type 0
IsThere records path rev = IsTrue (is_there same_name (tree_of (trees_to records rev) rev) path)

-- where the path of a revision stood in another one (Subversion book, "Peg and operative revisions")
abbrev pub location_in : List NodeRecord → List NameId → ℕ → ℕ → Option (List NameId)
location_in records path peg rev = location same_name (trees_to records peg) path peg rev

abbrev pub segment_view : KeptSegment → Segment NameId
segment_view segment = record { lo = segment.lo; hi = segment.hi; path = segment.path }

-- the segment of the revisions between two, if any is between them, in which a path stood nowhere
abbrev pub gap_between : ℕ → ℕ → List KeptSegment
gap_between below above =
    if nat_lt (below + 1) above then record { lo = below + 1; hi = above - 1; path = None } ∷ [] else []

-- these are the segments of the path of a revision (Subversion book, "Peg and operative revisions")
abbrev pub AreSegmentsOf : IndexValue → List NameId → ℕ → List KeptSegment → Type 0
AreSegmentsOf index path rev segments =
    map segment_view segments ≡ segments_of same_name (trees_to index.records rev) path rev

-- each of them is as long as it can be, and they leave out no revision in which the path stood somewhere (Subversion
-- book, "Peg and operative revisions")
abbrev pub AreMaximal : IndexValue → List NameId → ℕ → List KeptSegment → Type 0
AreMaximal index path rev segments =
    AreSegments (location_in index.records path rev) (rev + 1) (map segment_view segments)

-- these are the operative revisions of the segments, if the segments are those of a path of some revision (Subversion
-- book, "Examining history")
abbrev pub AreHitsOf : IndexValue → List KeptSegment → List Hit → Type 0
AreHitsOf index segments hits =
    (path : List NameId) (rev : ℕ) → IsThere index.records path rev → AreSegmentsOf index path rev segments
    → hits
    ≡ operative_of same_name (history_to index.records rev) (trees_to index.records rev) (map segment_view segments)

-- the hits are the operative revisions of the segments that are in the range
abbrev pub AreHitsInRange : IndexValue → List KeptSegment → Option (ℕ × ℕ) → List Hit → Type 0
AreHitsInRange index segments range hits =
    (path : List NameId) (rev : ℕ) → IsThere index.records path rev → AreSegmentsOf index path rev segments
    → hits
    ≡ filter (λ hit. is_in_range range hit.rev)
    (operative_of same_name (history_to index.records rev) (trees_to index.records rev) (map segment_view segments))
