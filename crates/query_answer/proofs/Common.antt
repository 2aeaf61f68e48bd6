-- The names that most proofs cite, passed on from one place. Declares nothing.
pub use Rattle.std.proofs.Common.{[], ◌&&◌, ◌++◌, ◌+◌, ◌-◌, ◌<◌, ◌==◌, ◌∙◌, ◌∷◌, ◌≡◌, ◌≢◌, ◌≤◌, ◌⊎◌, All, ap, append-nil, ap₂, arith, Bool, bytes_eq, drop, eq-eqb, eqb-true, false, filter, fold, get_or, Global, IfSome, if◌then◌else◌, inl, inr, is_none, is_some, IsFalse, length, List, ltb, map, nat_lt, None, not, Option, option_map, pred, refl, reverse, rules, slice_get, slice_index_or, Some, subst, suc, sum, sym, take, take-append-drop, true, zero, ℕ}
pub use Rattle.std.proofs.lemmas.Bool.{both_ways, cases_Bool, cases_lt, cond_both, false_from_ne_true, le-leb, lt-leb, lt-ltb, ltb-false, ltb-true}
pub use Rattle.std.proofs.lemmas.Grind.{common_steps}
pub use Rattle.std.proofs.lemmas.List.{drop-map, drop_all, length-append, length-drop, length-map, map-append, map-id, reverse-append, reverse-reverse, take-map, take_all, take_more}
pub use Rattle.std.proofs.lemmas.List.Elements.{All-append, All-cons, All-drop, All-filter, All-get_or, All-head, All-map, All-nil, All-push, All-tail, All-take, All-weaker, filter-append, filter_map-append}
pub use Rattle.std.proofs.lemmas.Option.{get_or_from_slice_get, none-some, option_and_then_some, same_Some}
pub use Rattle.std.proofs.lemmas.Result.{err_from_is_err_and, IfOk-weaker}
pub use Rattle.std.specs.List.{cons_option, range_with_len, slice_split}
pub use Rattle.std.specs.Prelude.{codes, decimal, Err, filter_map, flat_map, IfOk, MatchResult, Ok, OnOk, option_and_then, Result, Vec}
pub use Rattle.block_map.specs.Map.{HasNoneFrom, hi_of, IsEndIn, IsNearest, IsNearestOrNone, MapValue, revision_in}
pub use Rattle.block_map.specs.Standing.{entry_view, own_mergeinfo_at, Standing, standing_at}
pub use Rattle.merge_info.specs.Value.{IsMergeInfo, MergeInfoValue, runs_at, some_runs}
pub use Rattle.path_index.proofs.Renaming.{is_operative-rename, same_location-rename, segments_of-rename}
pub use Rattle.path_index.specs.History.{history_to, trees_to}
pub use Rattle.path_index.specs.Index.{AreHitsInRange, AreMaximal, AreSegmentsOf, IndexValue, IsThere, IsWhole, location_in, segment_view}
pub use Rattle.path_index.specs.Operative.{down_from, hit_at, is_operative, operative_in, operative_of}
unfoldable pub use Rattle.path_index.specs.Operative.{operative_from}
pub use Rattle.path_index.specs.Range.{is_in_range}
pub use Rattle.path_index.specs.Segment.{AreSegments, IsSegment, rename_segment, same_location, Segment, segments_of}
unfoldable pub use Rattle.path_index.specs.Segment.{segments_up_to, with_location}
pub use Rattle.path_index.specs.declared.segment.Hit.{Hit}
pub use Rattle.query_answer.specs.Answer.{Answer, eligible_in_range, eligible_line, eligible_lines, HasPathOf, hit_line, if_both_exist, if_peg_exists, IsAnswer, IsLocationOf, lent_path, locate_lines, location_line, log_line, log_lines, merged_in_range, merged_line, merged_lines, needs_mergeinfo, ok_answer, refused_answer, segment_in_bytes, segment_line, segments_in_bytes, segments_lines, TreesOfBytes, value_answer, with_effective_mergeinfo, with_value}
unfoldable pub use Rattle.query_answer.specs.Answer.{answer_of}
pub use Rattle.query_answer.specs.Effective.{effective_of, effective_value, nearest, NearestMergeinfo, own_mergeinfo, own_or, own_or_inherited}
unfoldable pub use Rattle.query_answer.specs.Effective.{nearest_from}
pub use Rattle.query_answer.specs.Held.{depth_in, held_ranges_at, held_ranges_in, held_value, is_inherited, IsHeldIn, rest_of}
pub use Rattle.query_answer.specs.HeldValue.{own_or_below, path_above, ranges_at}
pub use Rattle.query_answer.specs.Merged.{eligible_at, found_in, is_eligible, merged_at, merged_revision, operative_location, RevisionsByPath, value_has}
pub use Rattle.query_answer.specs.NearestValue.{text_found, value_said}
pub use Rattle.query_answer.specs.Peg.{Peg, peg_value_of, peg_view, PegValue}
pub use Rattle.query_answer.specs.Query.{bad, eligible, HasPegOf, HasTargetOf, is_tab, locate, log, merged, mergeinfo, query_of, query_of_fields, segments, third_field}
pub use Rattle.query_answer.specs.Repo.{AreHitsIn, AreSegmentsIn, chosen_by, effective_in, held_answer, index_of_dump, IsMergeinfoRefused, IsNearestIn, IsPair, IsPairRefused, IsPathIn, IsPegFound, IsPegKnown, IsPegRefused, IsRepo, IsTargetFound, locate_answer, log_answer, mergeinfo_answer, nearest_by_number, nearest_text_at, nearest_text_in, peg_in_bytes, segments_answer, trees_in_bytes, with_pair_in, with_peg_in}
pub use Rattle.query_answer.specs.SourceHits.{eligible_by_hit, eligible_by_hits, has_in, has_revision, is_eligible_at, lent_ranges, merged_by_hit, merged_by_hits, segment_path, TellsLocations}
pub use Rattle.query_answer.specs.Unanswered.{given, HasAnswer}
pub use Rattle.query_answer.specs.declared.target.PathRev.{PathRev}
pub use Rattle.query_answer.specs.declared.unanswered.Unanswered.TheVariants.{Memory, Refused}
pub use Rattle.svn_dump.proofs.Renaming.Trees.{entry_at-rename, is_there-rename, rename_entry, rename_tree, tree_of-rename, tree_of_unnamed, trees_of-rename}
pub use Rattle.svn_dump.proofs.Revisions.{each_tree_push, length-trees_of, tree_of_past}
pub use Rattle.svn_dump.proofs.Trees.{entry_at-nil, entry_from, new_entry, settled_entry}
pub use Rattle.svn_dump.specs.Dump.{action_view, DumpValue, history_in_bytes, history_view, IsActOf, IsDump, IsRecordOf, IsSettingOf, record_view, records_by_revision, setting_view, text_of}
pub use Rattle.svn_dump.specs.History.{Action, add, change, copy, delete, History, keep, put, Record, rename_history, Setting}
pub use Rattle.svn_dump.specs.Location.{location, origin_of}
unfoldable pub use Rattle.svn_dump.specs.Location.{location_within}
pub use Rattle.svn_dump.specs.Tree.{end_tree, Entry, entry_of_copy, first_tree, is_there, mergeinfo_after, Tree, tree_after_record, tree_from_revision, tree_of, tree_with_mergeinfo, tree_without, with_revision}
unfoldable pub use Rattle.svn_dump.specs.Tree.{entry_at, start_tree, tree_after_action, trees_of}
pub use Rattle.svn_dump.specs.declared.record.NodeRecord.{NodeRecord}
pub use Rattle.svn_dump.specs.declared.record.ValueId.{ValueId}
pub use Rattle.svn_path.proofs.Belows.{IsSame, IsSame-same_name, same_path-is}
pub use Rattle.svn_path.proofs.Tables.{bytes_eq-name_of, bytes_eq-unknown, components_of-components, components_of-same}
pub use Rattle.svn_path.specs.Below.{below, same_path}
pub use Rattle.svn_path.specs.Components.{HasDot, IsComponent, parts_of, path_text}
pub use Rattle.svn_path.specs.Names.{IsTable, name_of}
pub use Rattle.svn_path.specs.Path.{components_of, HasUnknown, IsPathOf, same_name}
pub use Rattle.svn_path.specs.declared.names.NameId.{NameId}
pub use Rattle.svn_text.specs.Line.{line_text}
