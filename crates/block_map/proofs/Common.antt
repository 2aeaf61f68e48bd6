-- The names that most proofs cite, passed on from one place. Declares nothing.
pub use Rattle.std.proofs.Common.{[], ◌%◌, ◌++◌, ◌+◌, ◌-◌, ◌/◌, ◌<◌, ◌==◌, ◌^◌, ◌∙◌, ◌∷◌, ◌≡◌, ◌≢◌, ◌≤◌, ◌⊎◌, add-one, All, ap, append-nil, append_assoc, ap₂, arith, Bool, Bor, drop, Err, false, flat_map, fold, get_or, IfSome, if◌then◌else◌, inl, inr, is_some, length, length-append, length-drop, List, ltb, map, None, not, Ok, OnErr, OnOk, Option, option_map, refl, replicate, Result, reverse, rules, Some, subst, suc, sum, sym, take, take_all, true, unwrap_or, zero, ℕ}
pub use Rattle.std.proofs.Math.Seq.{drop-length, take-append-add, take-append_seam}
pub use Rattle.std.proofs.lemmas.Bool.{cases_Bool, cases_eq, cases_lt, cases_order, cond-false, cond-true, eq-eqb, eqb-true, le-leb, le-ltb, lt-leb, lt-ltb, ltb-false, ltb-true, ne_eqb}
pub use Rattle.std.proofs.lemmas.Grind.{common_steps, flat_map-append}
pub use Rattle.std.proofs.lemmas.List.{drop-append-le, drop-map, drop_at, get_or-append_right, get_or-drop, get_or-map, get_or-replicate, get_or-take, get_or_append_left, get_or_at, get_or_default, length-map, length-replicate, length-take, length-take-le, length_push, map-append, nil_from_length, reverse-append, reverse-reverse, take-append-drop, take-append-le, take-map, take_more}
pub use Rattle.std.proofs.lemmas.List.Elements.{All-drop, All-head, All-map, All-nil, All-push, All-tail, All-weaker, AllZip-get_or}
pub use Rattle.std.proofs.lemmas.List.Sums.{fold-append, fold_push, sum_by-append, sum_by-cons, sum_by-take-le}
pub use Rattle.std.proofs.lemmas.Option.{get_or_from_slice_get, none-some, same_Some, slice_get-get_or, slice_get-map, slice_get_past, slice_get_read, slice_get_within}
pub use Rattle.std.proofs.lemmas.Result.{IfOk-weaker, on_ok_weaker}
pub use Rattle.std.specs.Arc.{arc_value}
pub use Rattle.std.specs.Global.{Global}
pub use Rattle.std.specs.List.{AllZip, range_with_len}
pub use Rattle.std.specs.Option.{option_and_then, option_map_or, option_or}
pub use Rattle.std.specs.Prelude.{IfOk, option_copied, slice_get}
pub use Rattle.std.specs.declared.sync.Arc.{Arc}
pub use Rattle.block_map.specs.Blocks.{AreBlocksBefore, AreBlocksFrom, block_nodes, block_records, block_trees}
pub use Rattle.block_map.specs.ChildMaps.{AreOrdered, child_in, child_map_at, Extends, HasOne, HasSides, HasTwo, HaveNodesBelow, IsOrderedAfter, leaf_of, SetsChild, sides_of, with_name}
unfoldable pub use Rattle.block_map.specs.ChildMaps.{found_within}
pub use Rattle.block_map.specs.Ends.{action_at_tick, end_of, ends_of, ends_view, HasSourceBefore, HaveSources, record_at_tick}
pub use Rattle.block_map.specs.FaultFound.{fault_found, has_parent_standing, is_dir_standing, missing_found, source_found, Standings, target_found}
pub use Rattle.block_map.specs.Locations.{AddsBelow, AreAfterThoseAbove, IsLocationBelow, location_below, path_above, path_at, path_of, whole_location, with_stored}
unfoldable pub use Rattle.block_map.specs.Locations.{locations_of}
pub use Rattle.block_map.specs.Look.{absent, at, at_with, Found, found_after_action, from_beginning, is, IsFoundAtOrBefore, Look, look, look_after, look_at, resolved, with_look, with_mergeinfo, with_setting}
unfoldable pub use Rattle.block_map.specs.Look.{looks_of}
pub use Rattle.block_map.specs.LookThrough.{IsFoundUpTo, look_from, look_through}
pub use Rattle.block_map.specs.Looked.{looked_view}
pub use Rattle.block_map.specs.Map.{AreEntryAndNearest, found_view, HasNoneFrom, hi_of, IsEndIn, IsMapOf, IsMapOfFirstRecords, IsNearestOrNone, look_in, MapValue, most_nodes, nearest_view, nodes_for, records_at_ticks, revision_in, standings_in, state_in}
pub use Rattle.block_map.specs.Node.{absent_node, gives_mergeinfo, is_location, may_give_mergeinfo, no_children, node_at_location, node_of_kind, node_with_mergeinfo, node_with_setting, own_with_mergeinfo, untouched}
pub use Rattle.block_map.specs.Standing.{entry_view, mergeinfo_of, Standing, standing_at, standing_of}
pub use Rattle.block_map.specs.Trees.{action_in, AreMapTrees, AreTrees, end_of_trees, IsNodeAfter, IsRootAfter, IsRootAt, look_after_action, look_after_record, look_in_trees, look_through_trees, SameTrees, ShowsAction, ShowsPath, ShowsTick}
pub use Rattle.block_map.specs.Trie.{as_at, At, at_path, at_root, base_look, base_of_path, child_at, child_of, ChildGivesNone, ChildrenGiveNone, ExtendsTrie, found_at, found_below, HasLocation, IsBaseOfPath, IsCopiedNode, IsLocationOfPath, IsNodeOf, IsPathBaseOf, IsPositionOf, IsSound, LookOfNumbers, nothing, own_found, path_base_view, position_view, PutsNode, TrieValue}
pub use Rattle.block_map.specs.declared.trees.Trees.{Trees}
pub use Rattle.block_map.specs.declared.trie.child_map.ChildMap.{ChildMap}
pub use Rattle.block_map.specs.declared.trie.child_map.ChildMap.TheVariants.{Branch, Leaf}
pub use Rattle.block_map.specs.declared.trie.child_map.ChildMapId.{ChildMapId}
pub use Rattle.block_map.specs.declared.trie.location.LocationId.{LocationId}
pub use Rattle.block_map.specs.declared.trie.node.Base.{Base}
pub use Rattle.block_map.specs.declared.trie.node.Node.{Node}
pub use Rattle.block_map.specs.declared.trie.node.NodeId.{NodeId}
pub use Rattle.svn_dump.proofs.Faults.{fault_of-add, fault_of-change, fault_of-copy, fault_of-delete, first_fault_from-nil, first_fault_from_faulty, first_fault_from_fine, first_fault_in-nil, first_fault_in_faulty, first_fault_in_fine, record_count, record_count-cons}
pub use Rattle.svn_dump.proofs.Grouped.{flat_map-records_by_revision, total, total-sum}
pub use Rattle.svn_dump.proofs.Lists.{map-same, slice_get-front, slice_get-push}
pub use Rattle.svn_dump.proofs.Revisions.{length-with_revision, opening_next, start_tree-nil, tree_of-append, tree_of-revisions, tree_of_push}
pub use Rattle.svn_dump.specs.Dump.{action_view, DumpValue, history_view, IsActOf, IsDump, IsRecordOf, record_view, records_by_revision, revisions_from, setting_view}
pub use Rattle.svn_dump.specs.Fault.{exists, Fault, fault_if_missing, fault_of, fault_of_source, fault_of_target, first_fault, first_fault_from, first_fault_in, has_parent, is_dir, missing, no_parent, no_source}
pub use Rattle.svn_dump.specs.History.{Action, add, change, copy, delete, History, keep, put, Record, Setting}
pub use Rattle.svn_dump.specs.State.{fault_of_next_record, fault_within, state, tree_within}
unfoldable pub use Rattle.svn_dump.specs.State.{fault_of_next_record_from, state_from}
pub use Rattle.svn_dump.specs.Tree.{end_tree, Entry, entry_at, is_there, mergeinfo_after, start_tree, Tree, tree_after_record, tree_from_revision, tree_of, with_revision}
unfoldable pub use Rattle.svn_dump.specs.Tree.{trees_of}
pub use Rattle.svn_dump.specs.declared.record.Act.{Act}
pub use Rattle.svn_dump.specs.declared.record.NodeRecord.{NodeRecord}
pub use Rattle.svn_dump.specs.declared.record.ValueId.{ValueId}
pub use Rattle.svn_path.proofs.Belows.{append-from_below, IsSame, IsSame-same_name, parent_of-push}
pub use Rattle.svn_path.specs.Below.{below, parent_of}
pub use Rattle.svn_path.specs.Path.{same_name}
pub use Rattle.svn_path.specs.declared.names.NameId.{NameId}
