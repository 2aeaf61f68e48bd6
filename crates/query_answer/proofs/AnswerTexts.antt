-- The answer to a query, by what was found of its peg and of the peg's path.
use Rattle.query_answer.proofs.Common.{◌≡◌, ℕ, ◌<◌, ◌≤◌, true, false, List, [], ◌∷◌, Option, Some, None, filter, option_map, length, map, bytes_eq, refl, sym, ap, ap₂, subst, ◌∙◌, Err, Result, Vec, flat_map, le-leb, lt-leb, history_to, trees_to, AreMaximal, IndexValue, IsThere, IsWhole, segment_view, operative_of, is_in_range, segments_of, Hit, same_name, components_of, NameId, MergeInfoValue, line_text, DumpValue, history_in_bytes, location, is_there, tree_of, NodeRecord, Answer, IsAnswer, TreesOfBytes, if_both_exist, if_peg_exists, with_effective_mergeinfo, with_value, answer_of, eligible_lines, locate_lines, location_line, log_lines, merged_lines, value_answer, ok_answer, refused_answer, segment_line, segments_lines, effective_value, Peg, PegValue, peg_view, bad, eligible, locate, log, merged, mergeinfo, segments, held_value, IsMergeinfoRefused, IsPair, IsPairRefused, IsPegFound, IsPegRefused, IsRepo, with_peg_in, with_pair_in, effective_in, held_answer, index_of_dump, locate_answer, log_answer, mergeinfo_answer, peg_in_bytes, segments_answer, trees_in_bytes, PathRev, Memory, Refused, HasAnswer, MapValue}
use Rattle.std.specs.Prelude.{◌++◌}
use Rattle.std.specs.declared.alloc.Global.{Global}
use Rattle.std.specs.Borrow.{Bor}
use Rattle.path_index.specs.declared.segment.Segment.{Segment as KeptSegment}
use Rattle.merge_info.specs.Text.{printed_entry, value_text}
use Rattle.svn_dump.specs.Record.{HistoryOfBytes}
use Rattle.query_answer.specs.declared.answers.Answer.{Answer as KeptAnswer}
use Rattle.query_answer.specs.declared.answers.Answer.TheVariants as kept
use Rattle.query_answer.specs.declared.held_mergeinfo.HeldMergeinfo.{HeldMergeinfo}
use Rattle.query_answer.specs.declared.unanswered.Unanswered.{Unanswered}
use Rattle.query_answer.specs.declared.verbs.pair.Pair.{Pair}
use Rattle.query_answer.specs.declared.status.Status.{Status}
use Rattle.query_answer.specs.declared.status.Status.TheVariants as status
use Rattle.query_answer.proofs.InBytes.{IsWhole-index_of_dump}
use Rattle.query_answer.proofs.LocationsInBytes.{hit_lines-log, kept_in_bytes, kept_names, located_in_bytes, located_names}

-- ---- by what was found of the peg

module _ (trees : TreesOfBytes) (peg : Peg) (answer : Answer) where
  pub if_peg_exists-late : length trees ≤ peg.rev → if_peg_exists trees peg answer ≡ refused_answer status.NoSuchRevision
  if_peg_exists-late late = rw (le-leb _ _ late) refl

  pub if_peg_exists-absent : peg.rev < length trees → is_there bytes_eq (tree_of trees peg.rev) peg.path ≡ false → if_peg_exists trees peg answer ≡ refused_answer status.NoSuchPath
  if_peg_exists-absent within absent = rw (lt-leb _ _ within, absent) refl

  pub if_peg_exists-present : peg.rev < length trees → is_there bytes_eq (tree_of trees peg.rev) peg.path ≡ true → if_peg_exists trees peg answer ≡ answer
  if_peg_exists-present within there = rw (lt-leb _ _ within, there) refl

-- ---- by what is asked

module _ (history : HistoryOfBytes) (trees : TreesOfBytes) where
  pub answer_of-bad : answer_of history trees bad ≡ refused_answer status.BadQuery
  unfolding answer_of
  answer_of-bad = refl

  pub answer_of-locate : (peg : Peg) (rev : ℕ) → answer_of history trees (locate peg rev) ≡ if_peg_exists trees peg (ok_answer (locate_lines trees rev peg))
  unfolding answer_of
  answer_of-locate peg rev = refl

  pub answer_of-segments : (peg : Peg) → answer_of history trees (segments peg) ≡ if_peg_exists trees peg (ok_answer (segments_lines trees peg))
  unfolding answer_of
  answer_of-segments peg = refl

  pub answer_of-log : (peg : Peg) (range : Option (ℕ × ℕ))
      → answer_of history trees (log peg range)
      ≡ if_peg_exists trees peg (ok_answer (log_lines history trees peg range))
  unfolding answer_of
  answer_of-log peg range = refl

  pub answer_of-mergeinfo : (peg : Peg) → answer_of history trees (mergeinfo peg) ≡ if_peg_exists trees peg (value_answer (effective_value (tree_of trees peg.rev) peg.path))
  unfolding answer_of
  answer_of-mergeinfo peg = refl

  pub answer_of-merged : (source target : Peg) (range : Option (ℕ × ℕ))
      → answer_of history trees (merged source target range)
      ≡ if_both_exist trees source target (λ value. ok_answer (merged_lines history trees source range value))
  unfolding answer_of
  answer_of-merged source target range = refl

  pub answer_of-eligible : (source target : Peg) (range : Option (ℕ × ℕ))
      → answer_of history trees (eligible source target range)
      ≡ if_both_exist trees source target (λ value. ok_answer (eligible_lines history trees source target range value))
  unfolding answer_of
  answer_of-eligible source target range = refl

-- an answer without result lines
pub IsAnswer-Refused : (names : List (List ℕ)) (answer : Answer) (status : Status) → answer ≡ refused_answer status → IsAnswer names answer (kept.Refused status)
IsAnswer-Refused names answer status is = record { names_of = tt; same = sym is }

-- ---- by what was found of the path

module _ (dump : DumpValue) (peg : PegValue) (at : PathRev) (found : IsPegFound dump peg at) where
  pub IsAnswer-Location : (rev : ℕ) (located : Option (List NameId)) → located ≡ location same_name (trees_to dump.records at.rev) at.path at.rev rev
      → IsAnswer dump.names (locate_answer dump peg rev) (kept.Location located)
  IsAnswer-Location rev located is = record {
    names_of = located_names dump at found.is_in rev located is;
    same = ap (λ line. ok_answer (location_line line ∷ [])) (located_in_bytes dump at found.is_in rev located is)
        ∙ sym (found.answered (λ each. ok_answer (locate_lines (trees_in_bytes dump) rev each)));
  }

  module _ (kept_segments : Vec KeptSegment Global) (is : map segment_view kept_segments.items ≡ segments_of same_name (trees_to dump.records at.rev) at.path at.rev) where
    pub IsAnswer-Segments : IsAnswer dump.names (segments_answer dump peg) (kept.Segments kept_segments)
    IsAnswer-Segments = record {
      names_of = kept_names dump at found.is_in kept_segments.items is;
      same = ap (λ all. ok_answer (map segment_line all)) (kept_in_bytes dump at found.is_in kept_segments.items is)
          ∙ sym (found.answered (λ each. ok_answer (segments_lines (trees_in_bytes dump) each)));
    }

    -- a line for each operative revision in the range
    pub IsAnswer-Log : AreMaximal (index_of_dump dump) at.path at.rev kept_segments.items → (range : Option (ℕ × ℕ)) (hits : Vec Hit Global)
        → hits.items ≡ filter (λ hit. is_in_range range hit.rev) (operative_of same_name (history_to dump.records at.rev) (trees_to dump.records at.rev) (map segment_view kept_segments.items))
        → IsAnswer dump.names (log_answer dump peg range) (kept.Log kept_segments hits)
    IsAnswer-Log maximal range hits hits_are = record {
      names_of = kept_names dump at found.is_in kept_segments.items is;
      same = ap ok_answer (hit_lines-log dump at found.is_in kept_segments.items is maximal range hits.items hits_are)
          ∙ sym (found.answered (λ each. ok_answer (log_lines (history_in_bytes dump) (trees_in_bytes dump) each range)));
    }

-- the mergeinfo that holds for the path
pub mergeinfo_answer-found : (dump : DumpValue) (peg : PegValue) (at : PathRev) → IsPegFound dump peg at
    → mergeinfo_answer dump peg ≡ value_answer (effective_in dump at.path at.rev)
mergeinfo_answer-found dump peg at found =
    found.answered (λ each. value_answer (effective_value (tree_of (trees_in_bytes dump) each.rev) each.path))

-- ---- a refused peg

pub HasAnswer-peg_refused : (dump : DumpValue) (peg : PegValue) (e : Unanswered) → IsPegRefused dump peg e
    → (answer : Peg → Answer) → HasAnswer dump (with_peg_in dump peg answer) (Err e)
HasAnswer-peg_refused dump peg (Refused status) refused answer = IsAnswer-Refused dump.names _ status (refused.0 (answer (peg_view peg)))
HasAnswer-peg_refused dump peg Memory refused answer = tt

module _ (dump : DumpValue) (source target : PegValue) where
  pub IsPairRefused-source : (e : Unanswered) → IsPegRefused dump source e → IsPairRefused dump source target e
  IsPairRefused-source (Refused status) refused = (
    λ answer. refused.0 (with_peg_in dump target (λ to. with_effective_mergeinfo (trees_in_bytes dump) to (answer (peg_view source) to))),
    refused.1,
  )
  IsPairRefused-source Memory refused = tt

  module _ (at : PathRev) (found : IsPegFound dump source at) where
    with_pair_in-target : (answer : Peg → Peg → MergeInfoValue → Answer) → with_pair_in dump source target answer
        ≡ with_peg_in dump target (λ to. with_effective_mergeinfo (trees_in_bytes dump) to (answer (peg_in_bytes dump at) to))
    with_pair_in-target answer =
        found.answered (λ from. with_peg_in dump target (λ to. with_effective_mergeinfo (trees_in_bytes dump) to (answer from to)))

    pub IsPairRefused-target : (e : Unanswered) → IsPegRefused dump target e → IsPairRefused dump source target e
    IsPairRefused-target (Refused status) refused = (
      λ answer. with_pair_in-target answer
          ∙ refused.0 (with_effective_mergeinfo (trees_in_bytes dump) (peg_view target) (answer (peg_in_bytes dump at) (peg_view target))),
      refused.1,
    )
    IsPairRefused-target Memory refused = tt

    pub with_pair_in-found : (to : PathRev) → IsPegFound dump target to → (answer : Peg → Peg → MergeInfoValue → Answer)
        → with_pair_in dump source target answer ≡ with_value (effective_in dump to.path to.rev) (answer (peg_in_bytes dump at) (peg_in_bytes dump to))
    with_pair_in-found to other answer =
        with_pair_in-target answer ∙ other.answered (λ each. with_effective_mergeinfo (trees_in_bytes dump) each (answer (peg_in_bytes dump at) each))

-- ---- each answer about a pair

pub HasAnswer-pair_refused : (dump : DumpValue) (source target : PegValue) (e : Unanswered) → IsPairRefused dump source target e
    → (answer : Peg → Peg → MergeInfoValue → Answer) → HasAnswer dump (with_pair_in dump source target answer) (Err e)
HasAnswer-pair_refused dump source target (Refused status) refused answer = IsAnswer-Refused dump.names _ status (refused.0 answer)
HasAnswer-pair_refused dump source target Memory refused answer = tt

module _ (dump : DumpValue) (source target : PegValue) (pair : Pair) (found : IsPair dump source target pair) (answer : Peg → Peg → MergeInfoValue → Answer) where
  abbrev by_value : MergeInfoValue → Answer
  by_value = answer (peg_in_bytes dump pair.source) (peg_in_bytes dump pair.target.at)

  pub HasAnswer-mergeinfo_refused : (e : Unanswered) → IsMergeinfoRefused dump pair.target.at e → HasAnswer dump (with_pair_in dump source target answer) (Err e)
  HasAnswer-mergeinfo_refused e refused = subst (λ each. HasAnswer dump each (Err e)) (sym (found.answered answer)) (refused by_value)

  pub HasAnswer-held : (held : HeldMergeinfo) → effective_in dump pair.target.at.path pair.target.at.rev ≡ Some (held_value dump.names held)
      → (result : Result KeptAnswer Unanswered) → HasAnswer dump (held_answer dump pair held answer) result → HasAnswer dump (with_pair_in dump source target answer) result
  HasAnswer-held held is result =
      subst (λ each. HasAnswer dump each result) (sym (found.answered answer ∙ ap (λ value. with_value value by_value) is))

-- ---- what is written

-- the lines of a value, each ended by a newline
pub value_text-lines : (value : MergeInfoValue) → flat_map line_text (map printed_entry value) ≡ value_text value
value_text-lines [] = refl
value_text-lines (line ∷ value) = ap (λ rest. line_text (printed_entry line) ++ rest) (value_text-lines value)

pub components_of-lent : (names : List (List ℕ)) (found : Option (Bor (List NameId))) → option_map (λ path. components_of names path.now) found ≡ option_map (components_of names) (option_map (λ path. path.now) found)
components_of-lent names None = refl
components_of-lent names (Some path) = refl

-- the line of a location is that of the location in bytes
pub location_line-lent : (names : List (List ℕ)) (found : Option (Bor (List NameId))) (located : Option (List NameId)) → option_map (λ path. path.now) found ≡ located
    → location_line (option_map (λ path. components_of names path.now) found) ≡ location_line (option_map (components_of names) located)
location_line-lent names found located is = ap location_line (components_of-lent names found ∙ ap (option_map (components_of names)) is)

-- ---- by the kept repository

-- an index of a dump's records
pub index_is : (index : IndexValue) (dump : DumpValue) → index.records ≡ dump.records → index.first ≡ 0 → index ≡ index_of_dump dump
index_is index dump records first = ap₂ (λ all n. let one : IndexValue = record { records = all; first = n } in one) records first

pub IsRepo-view : (dump value : DumpValue) (index : IndexValue) (kept : MapValue) (ends : List ℕ) → dump ≡ value → IsRepo dump index kept ends → IsRepo value index kept ends
IsRepo-view dump value index kept ends same is = subst (λ each. IsRepo each index kept ends) same is

module _ (dump : DumpValue) (index : IndexValue) (kept : MapValue) (ends : List ℕ) (is : IsRepo dump index kept ends) where
  pub IsWhole-IsRepo : IsWhole index
  IsWhole-IsRepo = subst IsWhole (sym is.index_is) (IsWhole-index_of_dump dump is.dump_is)

  pub IsThere-IsRepo : (path : List NameId) (rev : ℕ) → IsThere dump.records path rev → IsThere index.records path rev
  IsThere-IsRepo path rev there = subst (λ each. IsThere each.records path rev) (sym is.index_is) there

  -- what is asked of the index is asked of the dump's records
  pub index-IsRepo : (P : List NodeRecord → Type 0) → P index.records → P dump.records
  index-IsRepo P all = subst (λ each. P each.records) is.index_is all
