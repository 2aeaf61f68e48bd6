-- Merged and eligible revisions by the kept segments of a source and their operative revisions.
use Rattle.std.specs.Prelude.{◌≡◌, ℕ, ◌≤◌, Bool, false, List, Option, None, Some, filter_map, map, option_and_then, option_map, reverse, slice_get, if◌then◌else◌}
use Rattle.std.specs.Borrow.{Bor}
use Rattle.svn_path.specs.Path.{same_name}
use Rattle.svn_path.specs.declared.names.NameId.{NameId}
use Rattle.range_list.specs.Rangelist.{inheritability_of}
use Rattle.range_list.specs.declared.run.Run.{Run}
use Rattle.merge_info.specs.Inherited.{inherited_revision}
use Rattle.path_index.specs.Index.{segment_view}
use Rattle.path_index.specs.Segment.{AreSegments}
use Rattle.path_index.specs.declared.segment.Hit.{Hit}
use Rattle.path_index.specs.declared.segment.Segment.{Segment as KeptSegment}
use Rattle.query_answer.specs.Merged.{is_eligible, merged_revision}
use Rattle.query_answer.specs.declared.answers.MergedRevision.{MergedRevision}
use Rattle.query_answer.specs.declared.verbs.source.SourceRanges.{SourceRanges}

-- the path of a segment of the list, if there is this segment and it is no gap
abbrev pub segment_path : List KeptSegment → ℕ → Option (List NameId)
segment_path segments n = option_and_then (λ segment. segment.path) (slice_get segments n)

-- the runs of a reference
abbrev pub lent_ranges : Option (Bor (List Run)) → Option (List Run)
lent_ranges ranges = option_map (λ lent. lent.now) ranges

-- whether the ranges of its segment have an operative revision, and if so whether it is inheritable
abbrev pub hit_has : List (Option (List Run)) → Hit → Option Bool
hit_has ranges hit = option_and_then (λ some. option_and_then (λ runs. inheritability_of runs hit.rev) some) (slice_get ranges hit.segment)

-- of inherited ranges only the inheritable revisions count
abbrev pub has_revision : Bool → List (Option (List Run)) → Hit → Option Bool
has_revision are_inherited ranges hit = if are_inherited then inherited_revision (hit_has ranges hit) else hit_has ranges hit

abbrev pub has_in : SourceRanges → Hit → Option Bool
has_in ranges hit = has_revision ranges.are_inherited (map lent_ranges ranges.by_segment.items) hit

abbrev pub merged_by_hit : (Hit → Option Bool) → Hit → Option MergedRevision
merged_by_hit has hit = option_map (merged_revision hit.rev) (has hit)

-- the merged revisions in rising order, given hits in falling order
abbrev pub merged_by_hits : (Hit → Option Bool) → List Hit → List MergedRevision
merged_by_hits has hits = reverse (filter_map (merged_by_hit has) hits)

-- the mergeinfo lacks it, and the target was not at the path of the segment
abbrev pub is_eligible_at : (Hit → Option Bool) → (ℕ → Option (List NameId)) → Hit → Option (List NameId) → Bool
is_eligible_at has target hit None = false
is_eligible_at has target hit (Some here) = is_eligible same_name (λ path rev. has hit) target here hit.rev

abbrev pub is_eligible_by_hit : (Hit → Option Bool) → List KeptSegment → (ℕ → Option (List NameId)) → Hit → Bool
is_eligible_by_hit has segments target hit = is_eligible_at has target hit (segment_path segments hit.segment)

abbrev pub eligible_by_hit : (Hit → Option Bool) → List KeptSegment → (ℕ → Option (List NameId)) → Hit → Option ℕ
eligible_by_hit has segments target hit = if is_eligible_by_hit has segments target hit then Some hit.rev else None

-- the eligible revisions in rising order, given hits in falling order
abbrev pub eligible_by_hits : (Hit → Option Bool) → List KeptSegment → (ℕ → Option (List NameId)) → List Hit → List ℕ
eligible_by_hits has segments target hits = reverse (filter_map (eligible_by_hit has segments target) hits)

-- the segments tell where a path was in each revision: nowhere above them
pub record TellsLocations (located : ℕ → Option (List NameId)) (segments : List KeptSegment) : Type 0 where
  pub bound : ℕ
  pub below : AreSegments located bound (map segment_view segments)
  pub above : (rev : ℕ) → bound ≤ rev → located rev ≡ None
