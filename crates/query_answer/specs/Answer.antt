-- The answer to a query on a history in bytes: a status, and for `ok` the result lines.
use Rattle.std.specs.Prelude.{◌≡◌, ℕ, ◌+◌, nat_le, Bool, true, false, List, [], ◌∷◌, ◌++◌, Option, Some, None, All, IfSome, codes, decimal, flat_map, length, map, filter, option_and_then, option_map, reverse, slice_get, bytes_eq, if◌then◌else◌}
use Rattle.std.specs.Borrow.{Bor}
use Rattle.path_index.specs.Index.{segment_view}
use Rattle.path_index.specs.Range.{is_in_range}
use Rattle.path_index.specs.Segment.{Segment, rename_segment, segments_of}
use Rattle.path_index.specs.declared.segment.Hit.{Hit}
use Rattle.path_index.specs.declared.segment.Segment.{Segment as KeptSegment}
use Rattle.svn_path.specs.Components.{path_text}
use Rattle.svn_path.specs.Names.{name_of}
use Rattle.svn_path.specs.Path.{IsPathOf, components_of}
use Rattle.svn_path.specs.declared.names.NameId.{NameId}
use Rattle.merge_info.specs.Value.{MergeInfoValue}
use Rattle.merge_info.specs.Text.{printed_entry}
use Rattle.svn_text.specs.Line.{line_text}
use Rattle.svn_dump.specs.Location.{location}
use Rattle.svn_dump.specs.Record.{HistoryOfBytes}
use Rattle.svn_dump.specs.Tree.{Tree, tree_of, is_there}
use Rattle.query_answer.specs.Effective.{effective_value}
use Rattle.query_answer.specs.Merged.{eligible_revisions, found_in, merged_revisions, value_has}
use Rattle.query_answer.specs.Query as query
use Rattle.query_answer.specs.Peg.{Peg}
use Rattle.query_answer.specs.Query.{Query}
use Rattle.query_answer.specs.declared.answers.Answer.{Answer as KeptAnswer}
use Rattle.query_answer.specs.declared.answers.Answer.TheVariants as kept
use Rattle.query_answer.specs.declared.answers.MergedRevision.{MergedRevision}
use Rattle.query_answer.specs.declared.status.Status.{Status}
use Rattle.query_answer.specs.declared.status.Status.TheVariants as status

abbrev pub TreesOfBytes : Type 0
TreesOfBytes = List (Tree (List ℕ) (List ℕ))

abbrev pub status_text : Status → List ℕ
status_text status.Ok = codes "ok"
status_text status.BadQuery = codes "bad-query"
status_text status.NoSuchRevision = codes "no-such-revision"
status_text status.NoSuchPath = codes "no-such-path"
status_text status.MalformedMergeinfo = codes "malformed-mergeinfo"

pub record Answer : Type 0 where
  pub status : Status
  pub lines : List (List ℕ)

abbrev pub refused_answer : Status → Answer
refused_answer status = record { status = status; lines = [] }

abbrev pub ok_answer : List (List ℕ) → Answer
ok_answer lines = record { status = status.Ok; lines = lines }

-- ---- the peg

-- the peg revision has to exist, and the path in it; otherwise this answer is refused
abbrev pub if_peg_exists : TreesOfBytes → Peg → Answer → Answer
if_peg_exists trees peg answer =
    if nat_le (length trees) peg.rev then refused_answer status.NoSuchRevision
    else (if is_there bytes_eq (tree_of trees peg.rev) peg.path then answer else refused_answer status.NoSuchPath)

-- ---- result lines

abbrev pub location_line : Option (List (List ℕ)) → List ℕ
location_line None = codes "-"
location_line (Some path) = path_text path

-- the revisions and the path of a segment
abbrev pub segment_line : Segment (List ℕ) → List ℕ
segment_line segment = decimal segment.lo ++ codes "-" ++ decimal segment.hi ++ codes " " ++ location_line segment.path

-- an operative revision, and the location of the path in it
abbrev pub log_line : List (List ℕ) → ℕ → List ℕ
log_line here rev = codes "r" ++ decimal rev ++ codes " " ++ path_text here

-- where the path was located in the revision; `-` in each one above the peg revision
abbrev pub locate_lines : TreesOfBytes → ℕ → Peg → List (List ℕ)
locate_lines trees rev peg = location_line (location bytes_eq trees peg.path peg.rev rev) ∷ []

abbrev pub segments_lines : TreesOfBytes → Peg → List (List ℕ)
segments_lines trees peg = map segment_line (segments_of bytes_eq trees peg.path peg.rev)

-- the operative revisions, each with the location of the path in it, the newest first
abbrev pub operative_locations : HistoryOfBytes → TreesOfBytes → Peg → List (List (List ℕ) × ℕ)
operative_locations history trees peg =
    reverse (found_in bytes_eq history trees peg.path peg.rev (λ here rev. Some (here, rev)))

-- the result lines of `log`, of the operative revisions in the range
abbrev pub log_lines : HistoryOfBytes → TreesOfBytes → Peg → Option (ℕ × ℕ) → List (List ℕ)
log_lines history trees peg range =
    map (λ found. log_line found.0 found.1)
    (filter (λ found. is_in_range range found.1) (operative_locations history trees peg))

-- the answer by the effective mergeinfo, unless its text is malformed
abbrev pub with_value : Option MergeInfoValue → (MergeInfoValue → Answer) → Answer
with_value None answer = refused_answer status.MalformedMergeinfo
with_value (Some value) answer = answer value

abbrev pub with_effective_mergeinfo : TreesOfBytes → Peg → (MergeInfoValue → Answer) → Answer
with_effective_mergeinfo trees peg answer = with_value (effective_value (tree_of trees peg.rev) peg.path) answer

abbrev pub mergeinfo_lines : MergeInfoValue → List (List ℕ)
mergeinfo_lines value = map printed_entry value

-- the answer to `mergeinfo`, by the effective mergeinfo
abbrev pub value_answer : Option MergeInfoValue → Answer
value_answer value = with_value value (λ each. ok_answer (mergeinfo_lines each))

-- a star follows a revision that is not inheritable
abbrev pub merged_line : MergedRevision → List ℕ
merged_line revision = codes "r" ++ decimal revision.rev ++ (if revision.inheritable then [] else codes "*")

abbrev pub eligible_line : ℕ → List ℕ
eligible_line rev = codes "r" ++ decimal rev

-- the merged revisions of a source in the range, given the mergeinfo of the target
abbrev pub merged_in_range : HistoryOfBytes → TreesOfBytes → Peg → Option (ℕ × ℕ) → MergeInfoValue → List MergedRevision
merged_in_range history trees source range value =
    filter (λ revision. is_in_range range revision.rev) (merged_revisions bytes_eq history trees source.path source.rev (value_has value))

abbrev pub merged_lines : HistoryOfBytes → TreesOfBytes → Peg → Option (ℕ × ℕ) → MergeInfoValue → List (List ℕ)
merged_lines history trees source range value = map merged_line (merged_in_range history trees source range value)

-- the eligible revisions of a source in the range, given the target and its mergeinfo
abbrev pub eligible_in_range : HistoryOfBytes → TreesOfBytes → Peg → Peg → Option (ℕ × ℕ) → MergeInfoValue → List ℕ
eligible_in_range history trees source target range value =
    filter (is_in_range range)
    (eligible_revisions bytes_eq history trees source.path source.rev (value_has value) (location bytes_eq trees target.path target.rev))

abbrev pub eligible_lines : HistoryOfBytes → TreesOfBytes → Peg → Peg → Option (ℕ × ℕ) → MergeInfoValue → List (List ℕ)
eligible_lines history trees source target range value = map eligible_line (eligible_in_range history trees source target range value)

-- ---- the answer

-- first the source, then the target, and then the mergeinfo of the target; otherwise this answer
abbrev pub if_both_exist : TreesOfBytes → Peg → Peg → (MergeInfoValue → Answer) → Answer
if_both_exist trees source target answer =
    if_peg_exists trees source (if_peg_exists trees target (with_effective_mergeinfo trees target answer))

-- the answer to a query on a history, given its trees
unfoldable pub answer_of : HistoryOfBytes → TreesOfBytes → Query → Answer
answer_of history trees query.bad = refused_answer status.BadQuery
answer_of history trees (query.locate peg rev) = if_peg_exists trees peg (ok_answer (locate_lines trees rev peg))
answer_of history trees (query.segments peg) = if_peg_exists trees peg (ok_answer (segments_lines trees peg))
answer_of history trees (query.log peg range) = if_peg_exists trees peg (ok_answer (log_lines history trees peg range))
answer_of history trees (query.mergeinfo peg) =
    if_peg_exists trees peg (value_answer (effective_value (tree_of trees peg.rev) peg.path))
answer_of history trees (query.merged source target range) =
    if_both_exist trees source target (λ value. ok_answer (merged_lines history trees source range value))
answer_of history trees (query.eligible source target range) =
    if_both_exist trees source target (λ value. ok_answer (eligible_lines history trees source target range value))

-- `#`, the number of the query, and the status
abbrev pub answer_head : ℕ → Status → List ℕ
answer_head number status = codes "#" ++ decimal number ++ codes " " ++ status_text status ++ 10 ∷ []

-- the result lines follow that
abbrev pub answer_text : ℕ → Answer → List ℕ
answer_text number answer = answer_head number answer.status ++ flat_map line_text answer.lines

-- ---- what is kept of an answer, whose paths are numbers of a table of names

-- the path, if there is one, is of the table
abbrev pub IsLocationOf : List (List ℕ) → Option (List NameId) → Type 0
IsLocationOf names path = IfSome path (IsPathOf names)

abbrev pub HasPathOf : List (List ℕ) → KeptSegment → Type 0
HasPathOf names segment = IsLocationOf names segment.path

abbrev pub segment_in_bytes : List (List ℕ) → KeptSegment → Segment (List ℕ)
segment_in_bytes names segment = rename_segment (λ id. name_of names id.0) (segment_view segment)

abbrev pub segments_in_bytes : List (List ℕ) → List KeptSegment → List (Segment (List ℕ))
segments_in_bytes names segments = map (segment_in_bytes names) segments

-- an operative revision, and the path of its segment
abbrev pub hit_line : List (Segment (List ℕ)) → Hit → List ℕ
hit_line segments hit =
    codes "r" ++ decimal hit.rev ++ codes " " ++ location_line (option_and_then (λ segment. segment.path) (slice_get segments hit.segment))

abbrev pub answer_in_bytes : List (List ℕ) → KeptAnswer → Answer
answer_in_bytes names (kept.Refused status) = refused_answer status
answer_in_bytes names (kept.Location path) = ok_answer (location_line (option_map (components_of names) path) ∷ [])
answer_in_bytes names (kept.Segments segments) = ok_answer (map segment_line (segments_in_bytes names segments.items))
answer_in_bytes names (kept.Log segments hits) =
    ok_answer (map (hit_line (segments_in_bytes names segments.items)) hits.items)
answer_in_bytes names (kept.Mergeinfo value) = ok_answer (mergeinfo_lines value)
answer_in_bytes names (kept.Merged revisions) = ok_answer (map merged_line revisions.items)
answer_in_bytes names (kept.Eligible revisions) = ok_answer (map eligible_line revisions.items)

-- the path of a reference
abbrev pub lent_path : Option (Bor (List NameId)) → Option (List NameId)
lent_path path = option_map (λ each. each.now) path

-- what is written of a path, and the result lines of the verbs
abbrev pub location_text : List (List ℕ) → Option (List NameId) → List ℕ
location_text names path = location_line (option_map (components_of names) path)

abbrev pub segments_text : List (List ℕ) → List KeptSegment → List ℕ
segments_text names segments = flat_map line_text (map segment_line (segments_in_bytes names segments))

abbrev pub hit_text : List (List ℕ) → List KeptSegment → Hit → List ℕ
hit_text names segments hit = line_text (hit_line (segments_in_bytes names segments) hit)

abbrev pub log_text : List (List ℕ) → List KeptSegment → List Hit → List ℕ
log_text names segments hits = flat_map line_text (map (hit_line (segments_in_bytes names segments)) hits)

-- the whole text of the answer to the query of this place in the list
abbrev pub answer_text_at : List (List ℕ) → ℕ → KeptAnswer → List ℕ
answer_text_at names place answer = answer_text (place + 1) (answer_in_bytes names answer)

-- each path of the answer is of the table
abbrev pub HasPathsOf : List (List ℕ) → KeptAnswer → Type 0
HasPathsOf names (kept.Refused status) = Unit {0}
HasPathsOf names (kept.Location path) = IsLocationOf names path
HasPathsOf names (kept.Segments segments) = All (HasPathOf names) segments.items
HasPathsOf names (kept.Log segments hits) = All (HasPathOf names) segments.items
HasPathsOf names (kept.Mergeinfo value) = Unit {0}
HasPathsOf names (kept.Merged revisions) = Unit {0}
HasPathsOf names (kept.Eligible revisions) = Unit {0}

-- the answer is this one, with paths of the table
pub record IsAnswer (names : List (List ℕ)) (answer : Answer) (each : KeptAnswer) : Type 0 where
  pub names_of : HasPathsOf names each
  pub same : answer_in_bytes names each ≡ answer

-- the status of an answer, whatever the names are
abbrev pub kept_status : KeptAnswer → Status
kept_status answer = (answer_in_bytes [] answer).status

-- where a query asks about mergeinfo, an answer of this status looks at it
abbrev pub needs_mergeinfo : Status → Bool
needs_mergeinfo status.Ok = true
needs_mergeinfo status.BadQuery = false
needs_mergeinfo status.NoSuchRevision = false
needs_mergeinfo status.NoSuchPath = false
needs_mergeinfo status.MalformedMergeinfo = true
