-- The revisions whose records name a path.
use Rattle.std.specs.Prelude.{◌≡◌, ℕ, ◌-◌, nat_lt, Bool, List, [], ◌∷◌, ◌++◌, Option, filter, map, if◌then◌else◌}
use Rattle.svn_path.specs.Path.{same_name}
use Rattle.svn_path.specs.declared.names.NameId.{NameId}
use Rattle.svn_dump.specs.declared.record.NodeRecord.{NodeRecord}
use Rattle.path_index.specs.History.{records_of}
use Rattle.path_index.specs.Operative.{down_from, hit_at, names_below}
use Rattle.path_index.specs.Range.{is_in_range}
use Rattle.path_index.specs.declared.segment.Hit.{Hit}
use Rattle.path_index.specs.declared.segment.Segment.{Segment}

-- a record of the revision names the path or a path below it
abbrev pub is_named_in : List NameId → List NodeRecord → ℕ → Bool
is_named_in path records rev = names_below same_name path (records_of records rev)

-- the revisions after `lo` and up to `hi` that name it, the newest first
abbrev pub named_revisions : List NameId → ℕ → ℕ → List NodeRecord → List ℕ
named_revisions path lo hi records = filter (is_named_in path records) (down_from (hi - lo) hi)

-- to the hits come the revisions after `lo` and up to `hi`, in the segment of this index, whose records name the path
-- or one below it
abbrev pub AddsNamed : List Hit → List Hit → ℕ → List NameId → ℕ → ℕ → List NodeRecord → Type 0
AddsNamed old new segment path lo hi records = new ≡ old ++ map (hit_at segment) (named_revisions path lo hi records)

-- the first revision of a segment, unless it is revision 0
abbrev pub first_revision : ℕ → List ℕ
first_revision lo = if nat_lt 0 lo then lo ∷ [] else []

-- to the hits come those of the segment of this index that are in the range: the later revisions of the segment whose
-- records name its path or one below it, and its first one
abbrev pub AddsOperative : List Hit → List Hit → ℕ → Segment → List NameId → Option (ℕ × ℕ) → List NodeRecord → Type 0
AddsOperative old new index segment path range records =
    new
    ≡ old ++ filter (λ hit. is_in_range range hit.rev)
    (map (hit_at index) (named_revisions path segment.lo segment.hi records ++ first_revision segment.lo))
