-- A repository: a dump of a lawful history, and the answers to queries about it.
use Rattle.std.specs.Prelude.{◌≡◌, ℕ, ◌<◌, ◌≤◌, false, List, Option, Some, None, Err, IsFalse, All, ⊤, bytes_eq, filter, length, map, option_map}
use Rattle.path_index.specs.History.{history_to, trees_to}
use Rattle.path_index.specs.Index.{AreMaximal, AreSegmentsOf, IndexValue, IsThere, segment_view}
use Rattle.path_index.specs.Operative.{operative_of}
use Rattle.path_index.specs.Range.{is_in_range}
use Rattle.path_index.specs.declared.segment.Hit.{Hit}
use Rattle.path_index.specs.declared.segment.Segment.{Segment as KeptSegment}
use Rattle.svn_path.specs.Path.{same_name, components_of, IsPathOf}
use Rattle.svn_path.specs.declared.names.NameId.{NameId}
use Rattle.svn_dump.specs.Dump.{DumpValue, IsDump, history_in_bytes, history_view}
use Rattle.svn_dump.specs.Fault.{first_fault}
use Rattle.svn_dump.specs.Tree.{is_there, tree_of, trees_of}
use Rattle.svn_dump.specs.declared.record.ValueId.{ValueId}
use Rattle.block_map.specs.Ends.{ends_of}
use Rattle.block_map.specs.Map.{IsEndIn, IsMapOf, MapValue, revision_in}
use Rattle.block_map.specs.declared.entry.Nearest.{Nearest}
use Rattle.query_answer.specs.Answer.{Answer, HasPathOf, TreesOfBytes, if_both_exist, if_peg_exists, with_value, answer_of, eligible_lines, locate_lines, log_lines, merged_lines, value_answer, needs_mergeinfo, ok_answer, refused_answer, segments_lines}
use Rattle.query_answer.specs.Effective.{NearestMergeinfo, effective_value, nearest, nearest_text, own_or_inherited}
use Rattle.query_answer.specs.Peg.{Peg, PegValue, peg_view}
use Rattle.query_answer.specs.Query as query
use Rattle.query_answer.specs.Query.{Query}
use Rattle.merge_info.specs.Value.{MergeInfoValue}
use Rattle.value_memo.specs.Parsed.{parsed_view}
use Rattle.value_memo.specs.declared.reading.Parsed.{Parsed}
use Rattle.query_answer.specs.declared.answers.Effective.{Effective}
use Rattle.query_answer.specs.declared.answers.Effective.TheVariants.{Malformed, Value}
use Rattle.query_answer.specs.Held.{depth_in, held_value}
use Rattle.query_answer.specs.declared.held_mergeinfo.HeldMergeinfo.{HeldMergeinfo}
use Rattle.query_answer.specs.declared.status.Status.{Status}
use Rattle.query_answer.specs.declared.status.Status.TheVariants as status
use Rattle.query_answer.specs.declared.target.PathRev.{PathRev}
use Rattle.query_answer.specs.declared.target.Target.{Target}
use Rattle.query_answer.specs.Unanswered.{HasAnswer}
use Rattle.query_answer.specs.declared.unanswered.Unanswered.{Unanswered}
use Rattle.query_answer.specs.declared.unanswered.Unanswered.TheVariants.{Memory, Refused}
use Rattle.query_answer.specs.declared.verbs.pair.Choice.{Choice}
use Rattle.query_answer.specs.declared.verbs.pair.Choice.TheVariants as choice
use Rattle.query_answer.specs.declared.verbs.pair.Pair.{Pair}

-- the index of a dump's records
abbrev pub index_of_dump : DumpValue → IndexValue
index_of_dump dump = record { records = dump.records; first = 0 }

-- the index, the map and the ends of the revisions are those of the dump, and its history is lawful
pub record IsRepo (dump : DumpValue) (index : IndexValue) (map : MapValue) (ends : List ℕ) : Type 0 where
  pub dump_is : IsDump dump
  pub index_is : index ≡ index_of_dump dump
  pub map_is : IsMapOf dump map
  pub ends_are : ends ≡ ends_of dump.counts
  pub lawful : first_fault same_name (history_view dump) ≡ None

-- ---- its answers

abbrev pub trees_in_bytes : DumpValue → TreesOfBytes
trees_in_bytes dump = trees_of bytes_eq (history_in_bytes dump)

-- the answer to a query on the history of the dump
abbrev pub answer_in : DumpValue → Query → Answer
answer_in dump query = answer_of (history_in_bytes dump) (trees_in_bytes dump) query

-- the refusal, if the peg is not there; otherwise the answer about its path and its revision
abbrev pub with_peg_in : DumpValue → PegValue → (Peg → Answer) → Answer
with_peg_in dump peg answer = if_peg_exists (trees_in_bytes dump) (peg_view peg) (answer (peg_view peg))

abbrev pub locate_answer : DumpValue → PegValue → ℕ → Answer
locate_answer dump peg rev = with_peg_in dump peg (λ found. ok_answer (locate_lines (trees_in_bytes dump) rev found))

abbrev pub segments_answer : DumpValue → PegValue → Answer
segments_answer dump peg = with_peg_in dump peg (λ found. ok_answer (segments_lines (trees_in_bytes dump) found))

abbrev pub log_answer : DumpValue → PegValue → Option (ℕ × ℕ) → Answer
log_answer dump peg range =
    with_peg_in dump peg (λ found. ok_answer (log_lines (history_in_bytes dump) (trees_in_bytes dump) found range))

abbrev pub mergeinfo_answer : DumpValue → PegValue → Answer
mergeinfo_answer dump peg =
    with_peg_in dump peg (λ found. value_answer (effective_value (tree_of (trees_in_bytes dump) found.rev) found.path))

-- the refusal, if a peg is not there or the mergeinfo of the target is malformed; otherwise the answer about both pegs
abbrev pub with_pair_in : DumpValue → PegValue → PegValue → (Peg → Peg → MergeInfoValue → Answer) → Answer
with_pair_in dump source target answer =
    if_both_exist (trees_in_bytes dump) (peg_view source) (peg_view target) (answer (peg_view source) (peg_view target))

-- ---- its paths

abbrev pub nearest_by_number : Nearest → NearestMergeinfo ValueId
nearest_by_number found = record { mergeinfo = found.mi; depth = found.depth }

-- the peg of a path of the dump
abbrev pub peg_in_bytes : DumpValue → PathRev → Peg
peg_in_bytes dump at = record { path = components_of dump.names at.path; rev = at.rev }

-- the path is that of a peg, and its revision ends at the tick
pub record IsPegKnown (dump : DumpValue) (peg : PegValue) (at : PathRev) (tick : ℕ) : Type 0 where
  pub of_names : IsPathOf dump.names at.path
  pub spells : peg_in_bytes dump at ≡ peg_view peg
  pub ends : IsEndIn dump at.rev tick

-- the path is in the tree of its revision
pub record IsPathIn (dump : DumpValue) (at : PathRev) : Type 0 where
  pub kept : IsDump dump
  pub of_names : IsPathOf dump.names at.path
  pub within : at.rev < length dump.counts
  pub there : IsThere dump.records at.path at.rev

-- a path in a revision is that of a peg, so each answer about the peg has its result lines
pub record IsPegFound (dump : DumpValue) (peg : PegValue) (at : PathRev) : Type 0 where
  pub is_in : IsPathIn dump at
  pub spells : peg_in_bytes dump at ≡ peg_view peg
  pub answered : (answer : Peg → Answer) → with_peg_in dump peg answer ≡ answer (peg_in_bytes dump at)

-- a path in a revision is that of a peg, and need not be there
pub record IsPegNamed (dump : DumpValue) (peg : PegValue) (at : PathRev) : Type 0 where
  pub kept : IsDump dump
  pub of_names : IsPathOf dump.names at.path
  pub within : at.rev < length dump.counts
  pub spells : peg_in_bytes dump at ≡ peg_view peg

-- the revision of the peg is there, and no revision has its path
pub record IsPathNowhere (dump : DumpValue) (peg : PegValue) : Type 0 where
  pub within : peg.rev < length (trees_in_bytes dump)
  pub nowhere : (rev : ℕ) → is_there bytes_eq (tree_of (trees_in_bytes dump) rev) (peg_view peg).path ≡ false

-- the status says that the revision of the peg is not there, or else that no revision has its path
abbrev pub IsNowhereBy : DumpValue → PegValue → Status → Type 0
IsNowhereBy dump peg status.Ok = ⊥
IsNowhereBy dump peg status.BadQuery = ⊥
IsNowhereBy dump peg status.NoSuchRevision = length (trees_in_bytes dump) ≤ peg.rev
IsNowhereBy dump peg status.NoSuchPath = IsPathNowhere dump peg
IsNowhereBy dump peg status.MalformedMergeinfo = ⊥

abbrev pub IsPegNowhere : DumpValue → PegValue → Unanswered → Type 0
IsPegNowhere dump peg (Refused status) = IsNowhereBy dump peg status
IsPegNowhere dump peg Memory = ⊤

-- each answer about the peg has this status, and looks at no mergeinfo
abbrev pub IsPegRefused : DumpValue → PegValue → Unanswered → Type 0
IsPegRefused dump peg (Refused status) =
    ((answer : Answer) → if_peg_exists (trees_in_bytes dump) (peg_view peg) answer ≡ refused_answer status)
    × IsFalse (needs_mergeinfo status)
IsPegRefused dump peg Memory = ⊤

-- the nearest mergeinfo of a path is found, and is that of so many of its components at most
pub record IsNearestIn (dump : DumpValue) (path : List NameId) (rev : ℕ) (found : Option Nearest) : Type 0 where
  pub nearest_is : option_map nearest_by_number found ≡ nearest same_name (revision_in dump rev) path
  pub depth : depth_in path found ≤ length path

-- the path of a peg is found, and its nearest mergeinfo
pub record IsTargetFound (dump : DumpValue) (peg : PegValue) (target : Target) : Type 0 where
  pub peg_is : IsPegFound dump peg target.at
  pub nearest : IsNearestIn dump target.at.path target.at.rev target.nearest

-- these are the segments of a path of the dump in a revision
pub record AreSegmentsIn (dump : DumpValue) (path : List NameId) (rev : ℕ) (segments : List KeptSegment) : Type 0 where
  pub of_names : All (HasPathOf dump.names) segments
  pub exact : AreSegmentsOf (index_of_dump dump) path rev segments
  pub maximal : AreMaximal (index_of_dump dump) path rev segments

-- these are the operative revisions of the segments in the range, if the segments are those of a path of the dump
abbrev pub AreHitsIn : DumpValue → List KeptSegment → Option (ℕ × ℕ) → List Hit → Type 0
AreHitsIn dump segments range hits =
    (path : List NameId) (rev : ℕ) → IsThere dump.records path rev → AreSegmentsIn dump path rev segments
    → hits
    ≡ filter (λ hit. is_in_range range hit.rev)
    (operative_of same_name (history_to dump.records rev) (trees_to dump.records rev) (map segment_view segments))

-- ---- effective mergeinfo

-- the value, or none if it is malformed
abbrev pub effective_view : Effective → Option MergeInfoValue
effective_view (Value value) = Some value
effective_view Malformed = None

-- the value that holds for a path of the dump in a revision
abbrev pub effective_in : DumpValue → List NameId → ℕ → Option MergeInfoValue
effective_in dump path rev = effective_value (tree_of (trees_in_bytes dump) rev) (components_of dump.names path)

-- what holds for a path, by what the text says that its first `depth` components have
abbrev pub effective_said : DumpValue → List NameId → ℕ → Parsed → Option MergeInfoValue
effective_said dump path depth parsed = option_map (own_or_inherited (components_of dump.names path) depth) (parsed_view parsed)

-- ---- the text that is read

-- the text of the nearest mergeinfo of a path of the dump in a revision
abbrev pub nearest_text_in : DumpValue → List NameId → ℕ → Option (List ℕ)
nearest_text_in dump path rev = nearest_text (tree_of (trees_in_bytes dump) rev) (components_of dump.names path)

abbrev pub nearest_text_at : DumpValue → Peg → Option (List ℕ)
nearest_text_at dump peg = nearest_text (tree_of (trees_in_bytes dump) peg.rev) peg.path

abbrev pub peg_text : DumpValue → PegValue → Option (List ℕ)
peg_text dump peg = nearest_text_at dump (peg_view peg)

-- for a query, if its pegs are there: that of the path whose mergeinfo is asked for, or of the target
abbrev pub text_read_for : DumpValue → Query → Option (List ℕ)
text_read_for dump query.bad = None
text_read_for dump (query.locate peg rev) = None
text_read_for dump (query.segments peg) = None
text_read_for dump (query.log peg range) = None
text_read_for dump (query.mergeinfo peg) = nearest_text_at dump peg
text_read_for dump (query.merged source target range) = nearest_text_at dump target
text_read_for dump (query.eligible source target range) = nearest_text_at dump target

-- ---- a source and a target

-- both paths are found, so each answer about the two has its result lines, unless the mergeinfo is malformed
pub record IsPair (dump : DumpValue) (source target : PegValue) (pair : Pair) : Type 0 where
  pub source_is : IsPegFound dump source pair.source
  pub target_is : IsTargetFound dump target pair.target
  pub answered : (answer : Peg → Peg → MergeInfoValue → Answer) → with_pair_in dump source target answer
      ≡ with_value (effective_in dump pair.target.at.path pair.target.at.rev) (answer (peg_in_bytes dump pair.source) (peg_in_bytes dump pair.target.at))

-- each answer about two pegs has this status, and looks at no mergeinfo
abbrev pub IsPairRefused : DumpValue → PegValue → PegValue → Unanswered → Type 0
IsPairRefused dump source target (Refused status) =
    ((answer : Peg → Peg → MergeInfoValue → Answer) → with_pair_in dump source target answer ≡ refused_answer status)
    × IsFalse (needs_mergeinfo status)
IsPairRefused dump source target Memory = ⊤

-- each answer by the effective mergeinfo of the path has this status
abbrev pub IsMergeinfoRefused : DumpValue → PathRev → Unanswered → Type 0
IsMergeinfoRefused dump at e = (answer : MergeInfoValue → Answer) → HasAnswer dump (with_value (effective_in dump at.path at.rev) answer) (Err e)

-- the answers about a source and a target, given the mergeinfo of the target
abbrev pub merged_by : DumpValue → Option (ℕ × ℕ) → Peg → Peg → MergeInfoValue → Answer
merged_by dump range source target value = ok_answer (merged_lines (history_in_bytes dump) (trees_in_bytes dump) source range value)

abbrev pub eligible_by : DumpValue → Option (ℕ × ℕ) → Peg → Peg → MergeInfoValue → Answer
eligible_by dump range source target value = ok_answer (eligible_lines (history_in_bytes dump) (trees_in_bytes dump) source target range value)

abbrev pub chosen_by : DumpValue → Choice → Option (ℕ × ℕ) → Peg → Peg → MergeInfoValue → Answer
chosen_by dump choice.Merged range = merged_by dump range
chosen_by dump choice.Eligible range = eligible_by dump range

abbrev pub pair_answer : DumpValue → PegValue → PegValue → Choice → Option (ℕ × ℕ) → Answer
pair_answer dump source target choice range = with_pair_in dump source target (chosen_by dump choice range)

-- such an answer about a pair, by what the target holds
abbrev pub held_answer : DumpValue → Pair → HeldMergeinfo → (Peg → Peg → MergeInfoValue → Answer) → Answer
held_answer dump pair held answer = answer (peg_in_bytes dump pair.source) (peg_in_bytes dump pair.target.at) (held_value dump.names held)
