-- The names that most proofs cite, passed on from one place. Declares nothing.
pub use Rattle.std.proofs.Common.{[], ⊎_elim, ◌&&◌, ◌++◌, ◌+◌, ◌-◌, ◌<◌, ◌==◌, ◌^◌, ◌||◌, ◌∙◌, ◌∷◌, ◌≡◌, ◌≢◌, ◌≤◌, ◌⊎◌, All, AllPairs, ap, append-nil, append_assoc, ap₂, arith, Bool, Contains, drop, false, filter, fold, get_or, Global, IfSome, if◌then◌else◌, inl, inr, is_some, IsSome, IsTrue, leb, length, length-append, length-drop, List, ltb, map, max, min, nat_le, nat_lt, None, not, Option, option_map, pred, refl, replicate, rules, set, slice_get, Some, subst, suc, sym, take, true, true≢false, Vec, zero, ℕ}
pub use Rattle.std.proofs.lemmas.Bool.{and_from, and_parts, cases_Bool, cases_eq, cases_lt, cases_order, cond-false, cond-true, cond_both, eq-eqb, eqb-true, false_from_ne_true, le-leb, le-ltb, leb-false, leb-true, lt-ltb, ltb-false, ltb-true, ne_eqb, or_right}
pub use Rattle.std.proofs.lemmas.List.{drop-map, drop_all, drop_at, drop_more, get_or-append-add, get_or-drop, get_or-map, get_or-set_other, get_or-set_same, get_or-take, get_or_append_left, get_or_default, get_or_push, length-map, length-replicate, length-set, length-take-le, length_push, map-append, nil_from_length, take-append-drop, take-map, take-take, take_all, take_at, take_more}
pub use Rattle.std.proofs.lemmas.List.Elements.{All-append, All-cons, All-contains, All-head, All-map, All-nil, All-push, All-replicate, All-tail, All-weaker, Contains-append_left, Contains-push, Contains-push_cases, filter-append}
pub use Rattle.std.proofs.lemmas.List.Sorted.{IsPartitionedBy-leb, IsPartitionedBy-ltb, IsPartitionPoint-from_clause}
pub use Rattle.std.proofs.lemmas.Option.{get_or_from_slice_get, none-some, option_and_then_some, same_Some, slice_get-get_or, slice_get_past, slice_get_within}
pub use Rattle.std.proofs.lemmas.Result.{IfOk-weaker, on_ok_weaker}
pub use Rattle.std.specs.List.{insert, IsDistinct, list_any, position, position_or_len}
pub use Rattle.std.specs.List.Sorted.{IsNonDecreasing, IsNonDecreasingBy, IsPartitionPoint}
pub use Rattle.std.specs.Option.{option_and_then, unwrap_or}
pub use Rattle.path_index.specs.History.{AreRising, records_of, trees_to}
unfoldable pub use Rattle.path_index.specs.History.{history_to}
pub use Rattle.path_index.specs.Index.{AreHitsInRange, AreHitsOf, gap_between, IndexValue, IsThere, segment_view}
pub use Rattle.path_index.specs.NamedRevisions.{first_revision, is_named_in, named_revisions}
pub use Rattle.path_index.specs.Nodes.{AreNodesOf, child_of, ExtendsNodes, HaveParentsBefore, node_below, node_of, same_child}
pub use Rattle.path_index.specs.Numbers.{AddsNumbers, AreAllRising, ArePair, FitShifted, has_number, HasNumber, HaveSameNumbers, IsFirstNotBelow, IsFrontUpTo, IsMoved, IsNewestBelow, IsRising, IsShifted, IsWith, KeepOthers, newer_of, numbers_in, numbers_of}
pub use Rattle.path_index.specs.Operative.{came_from_itself, down_from, hit_at, names_below, operative_in, operative_of, records_in}
unfoldable pub use Rattle.path_index.specs.Operative.{is_operative, operative_from}
pub use Rattle.path_index.specs.Range.{is_in_range}
pub use Rattle.path_index.specs.RecordEffect.{IsAddition, IsCopy, origin_of_entry, origin_view, SetsOrigin, SetsPath}
pub use Rattle.path_index.specs.Records.{AreCopies, AreKept, CopiesFrom, IsCopied, IsCountUpTo, moved_by, revs_of}
pub use Rattle.path_index.specs.RecordsByPath.{AddsEntries, AddsPath, AreByPath, AreEntriesOf, AreListed, CopiesPath, HasEntryOf, IsEntryOf, IsFrontAt, IsOfSome, NamesPath, SetsAt}
pub use Rattle.path_index.specs.Segment.{AreSegments, IsSegment, rename_segment, same_location, Segment, segments_of}
unfoldable pub use Rattle.path_index.specs.Segment.{segments_up_to, with_location}
pub use Rattle.path_index.specs.Span.{IsSpan, location_before}
pub use Rattle.path_index.specs.SparseNumbers.{HaveNoneElsewhere, IsPlaceOf, KeepPlaces, LeadBack, lists_by_node, no_list, place_of}
pub use Rattle.path_index.specs.declared.copied.Copied.{Copied}
pub use Rattle.path_index.specs.declared.nodes.Child.{Child}
pub use Rattle.path_index.specs.declared.records_by_path.RecordsByPath.{RecordsByPath}
pub use Rattle.path_index.specs.declared.segment.Hit.{Hit}
pub use Rattle.smallvec.specs.SmallVec.{SmallVec}
pub use Rattle.svn_dump.proofs.Lists.{AllPairs-append, slice_get-after, slice_get-before, slice_get-first, slice_get-push, slice_get-second}
pub use Rattle.svn_dump.proofs.Locations.{location_agree, location_at_origin, location_back, location_here, location_is_there, location_later, location_stays, location_stays_here, location_through, origin_stays, step_back}
pub use Rattle.svn_dump.proofs.Origins.{OriginsAreThere, OriginsAreThere-trees_of, OriginsFall, OriginsFall-trees_of}
pub use Rattle.svn_dump.specs.Dump.{DumpValue, history_view, record_view, records_by_revision, revisions_from, setting_view}
pub use Rattle.svn_dump.specs.History.{add, change, copy, delete, History, Record, rename_history, rename_record, Setting}
pub use Rattle.svn_dump.specs.Location.{location, origin_of}
pub use Rattle.svn_dump.specs.Tree.{end_tree, Entry, entry_at, first_tree, is_there, start_tree, Tree, tree_after_record, tree_from_revision, tree_of, trees_of}
pub use Rattle.svn_dump.specs.declared.record.Act.{Act}
pub use Rattle.svn_dump.specs.declared.record.NodeRecord.{NodeRecord}
pub use Rattle.svn_dump.specs.declared.record.Origin.{Origin}
pub use Rattle.svn_dump.specs.declared.record.ValueId.{ValueId}
pub use Rattle.svn_path.proofs.Belows.{below-itself, drop-from_below, is_below-append, IsSame, IsSame-same_name, IsSame-same_path, same_path-is}
pub use Rattle.svn_path.specs.Below.{below, is_below, same_path}
pub use Rattle.svn_path.specs.Path.{same_name}
pub use Rattle.svn_path.specs.declared.names.NameId.{NameId}
