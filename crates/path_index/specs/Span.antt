-- The newest revisions through which a path stood at one location, and where it stood before.
use Rattle.std.specs.Prelude.{◌≡◌, ℕ, ◌<◌, ◌≤◌, nat_lt, if◌then◌else◌, IfSome, List, Option, None, Some, option_and_then}
use Rattle.svn_path.specs.declared.names.NameId.{NameId}
use Rattle.svn_dump.specs.declared.record.NodeRecord.{NodeRecord}
use Rattle.path_index.specs.Index.{IsThere, location_in}
use Rattle.path_index.specs.LastSet.{origin_in}
use Rattle.path_index.specs.RecordEffect.{origin_view}
use Rattle.svn_dump.specs.declared.record.Origin.{Origin}
use Rattle.path_index.specs.declared.span.Span.{Span}

-- where a path with this origin stood in an earlier revision
abbrev pub location_before : List NodeRecord → ℕ → Option Origin → Option (List NameId)
location_before records rev origin =
    option_and_then (λ from. if nat_lt from.rev rev then None else location_in records from.path from.rev rev) origin

-- from `lo` up to `peg` the path stood where it stands in `peg`, in `lo` it came from its origin, and before it stood there
pub record IsSpan (records : List NodeRecord) (path : List NameId) (peg : ℕ) (span : Span) : Type 0 where
  pub within : span.lo ≤ peg
  pub came : origin_in records path span.lo ≡ origin_view span.origin
  pub stays : (rev : ℕ) → span.lo ≤ rev → rev ≤ peg → location_in records path peg rev ≡ Some path
  pub back : (rev : ℕ) → rev < span.lo
      → location_in records path peg rev ≡ location_before records rev span.origin
  pub earlier : IfSome span.origin (λ from. from.rev < span.lo)
  pub there : IfSome span.origin (λ from. IsThere records from.path from.rev)
