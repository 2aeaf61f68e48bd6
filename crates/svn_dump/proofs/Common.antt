-- The names that most proofs cite, passed on from one place. Declares nothing.
pub use Rattle.std.proofs.Common.{[], ⊎_elim, ◌&&◌, ◌++◌, ◌+◌, ◌-◌, ◌<◌, ◌||◌, ◌↔◌, ◌∙◌, ◌∷◌, ◌≡◌, ◌≢◌, ◌≤◌, ◌⊎◌, AllPairs, ap, append-nil, append_assoc, ap₂, arith, Bool, Bor, cond, Contains, drop, eq-eqb, eqb, false, filter_map, fold, get_or, IfSome, if◌then◌else◌, inl, inr, le-leb, le_trans, length, length-append, length-drop, length-take, List, lt-ltb, ltb-false, map, not, pred, refl, replicate, rules, set, sub-one, subst, suc, sum, sym, take, take-append-drop, take_all, true, true≢false, vec_len, zero, ℕ}
pub use Rattle.std.proofs.Math.Bool.{or-true}
pub use Rattle.std.proofs.Math.Seq.{drop-append-add, drop-append_seam, take-append_seam}
pub use Rattle.std.proofs.lemmas.Bool.{and_from, and_left, and_parts, and_right, both_ways, cases_Bool, cases_lt, cases_order, cond-false, cond-true, cond_both, eqb-false, eqb-true, false_from_ne_true, le-ltb, leb-false, leb-true, lt-leb, ltb-true, ne_eqb, not-false, not-true, not_from_false, not_from_true, or_from, or_parts, or_right}
pub use Rattle.std.proofs.lemmas.Grind.{flat_map-append, fold-append}
pub use Rattle.std.proofs.lemmas.List.{drop-append-le, drop-map, drop_more, get_or-append-add, get_or-append_right, get_or-take, get_or_append_left, get_or_at, get_or_past, get_or_push, get_or_read, length-map, length-replicate, length-take-le, length_push, map-append, map-set, map_push, nil_from_length, replicate-append-replicate, replicate_more, take-append-le, take-map, take_more, take_rest}
pub use Rattle.std.proofs.lemmas.List.Elements.{All-append, All-cons, All-filter, All-from_recursion, All-head, All-map, All-nil, All-push, All-tail, All-weaker}
pub use Rattle.std.proofs.lemmas.List.Folds.{fold_stays, list_any-append, list_any_at, list_any_none}
pub use Rattle.std.proofs.lemmas.List.Sums.{fails_before_first, fold_push, passes_at_first, position_or_len_is, split_at_first, sum_by-append, sum_by-cons, sum_by_push}
pub use Rattle.std.proofs.lemmas.Option.{cond_some, get_or_from_slice_get, IfSome_then, none-some, option_and_then_some, same_Some, slice_get-get_or, slice_get-map, slice_get_within, some_pair_parts}
pub use Rattle.std.proofs.lemmas.Result.{err_from_is_err_and}
pub use Rattle.std.proofs.lemmas.Slice.Eq.{bytes_eq-Decides, slice_eq-Decides}
pub use Rattle.std.specs.List.{after_first, before_first, cons_option, join_with_byte, list_all, list_any, onto_first, position_or_len, slice_split, starts_with}
unfoldable pub use Rattle.std.specs.List.{IsDistinct}
pub use Rattle.std.specs.Option.{option_eq, option_map_or, option_or}
pub use Rattle.std.specs.Prelude.{◌==◌, All, bytes_eq, codes, count_by, Err, filter, flat_map, IfErr, IfOk, is_none, is_some, IsFalse, IsTrue, MatchOption, nat_eq, nat_le, nat_lt, None, Ok, Option, option_and_then, option_copied, option_map, Result, slice_get, Some, unwrap_or}
pub use Rattle.svn_dump.specs.Block.{AreBlocks, Block, block_text, field, header_name, header_value, is_header_named, IsBlock, IsHeader, length_or_zero, listed_names, properties_length, without_space}
unfoldable pub use Rattle.svn_dump.specs.Block.{body_length}
pub use Rattle.svn_dump.specs.Decided.{HasFirstLine, IsDecidedError, IsUndecided}
pub use Rattle.svn_dump.specs.Draft.{action_in_bytes, dump_of, Extends, is_full, IsDraft, IsNamed, IsValued, IsWholeHistory, only_tables, record_in_bytes, setting_in_bytes}
pub use Rattle.svn_dump.specs.Dump.{DumpValue, history_in_bytes, IsActOf, IsChange, IsDump, IsRecordOf, IsSettingOf, record_view, records_by_revision, revisions_from, text_of}
pub use Rattle.svn_dump.specs.DumpError.{IsFirstAt, IsRefusal}
pub use Rattle.svn_dump.specs.DumpText.{all_records, first_line, FormatsAgree, IsDumpText, IsSmall, most_numbered, names_of, parts_of_action, parts_of_record, texts_of_action, values_of}
pub use Rattle.svn_dump.specs.Field.{field_index, fields_of}
pub use Rattle.svn_dump.specs.FirstRefusal.{after_block, begins_with_newline, block_at, body_length_at, end_refusal, format_of, front_refusals, has_twice, is_cut, is_no_header, IsEmptyLines, line_refusals, lines_before_empty, magic, refusal_or, RefusalAt, without_empty_lines}
unfoldable pub use Rattle.svn_dump.specs.FirstRefusal.{after_lines, block_refusal, first_refusal, header_lines, refusal_from}
pub use Rattle.svn_dump.specs.Format.{format_of_version, version}
pub use Rattle.svn_dump.specs.FrontBlock.{AddsBlock, AddsContent, BeginsWithBlock, BeginsWithHeaders, BeginsWithLines, IsBlockRefusalFrom, IsUnfinished}
pub use Rattle.svn_dump.specs.HeaderValues.{are_of_node, body_length_from_headers, field_value, has_changes_from_headers, is_delta_from_headers, mi_text_view, node_action_from_headers, node_action_view, node_from_headers, node_of_front, section_entry_view, setting_from_section}
unfoldable pub use Rattle.svn_dump.specs.HeaderValues.{content_from_headers}
pub use Rattle.svn_dump.specs.Headers.{AddsHeader, AreHeaders, AreOnce, RepeatsHeader}
pub use Rattle.svn_dump.specs.History.{Action, add, change, copy, delete, History, keep, put, Record, rename_action, rename_history, rename_record, rename_setting, Setting}
pub use Rattle.svn_dump.specs.Location.{location, origin_of}
unfoldable pub use Rattle.svn_dump.specs.Location.{location_within}
pub use Rattle.svn_dump.specs.Node.{BlockContent, content_by_fields, is_change, Node, node_add, node_block, node_change, node_copy, node_delete, NodeAction, other_block, revision_block, uuid_block}
pub use Rattle.svn_dump.specs.NumberedRecord.{is_full_with, is_path_large, is_record_large, IsAcceptedNode, IsFirstReason, IsNumberedAct, IsNumberedPath, IsNumberedRecord, IsTooLarge}
pub use Rattle.svn_dump.specs.PartialHeader.{AreHeaderLines, EndsHeader, is_node, IsBodyAfter, IsDecidedFront, IsDecidedFrontError, IsHeaderFront, IsPartialHeader, without_value}
pub use Rattle.svn_dump.specs.PartialLine.{EndsLine, HasOtherVersion, IsDecidedLine, IsFrontOfLine, IsPartialLine}
pub use Rattle.svn_dump.specs.Property.{deleted_entry_of, IsPiece, IsSection, IsSectionEntry, mergeinfo_name, piece_of, section_end, section_of, SectionEntry, setting_by, setting_by_value, setting_of, setting_unnamed, text_of_length, valued_entry_of}
unfoldable pub use Rattle.svn_dump.specs.Property.{entry_of, section_up_to}
pub use Rattle.svn_dump.specs.ReadError.{dump_error_at, read_error_of}
pub use Rattle.svn_dump.specs.Reader.{BeginsBlock, HasReadAll, IsBodyTo, IsIn, IsInBody, IsInHeader, IsInLine, IsReadAs, IsReadTo, ReadsPart, RefusesBlock, RefusesHeader}
pub use Rattle.svn_dump.specs.Record.{action_of, ActionOfBytes, has_changes, has_dot, has_late_source, history_of, HistoryOfBytes, is_allowed, is_delta, is_long, is_root, is_root_action, node_action_of, node_of_block, paths_read, record_by, RecordOfBytes, says_true, with_block, with_numbered, with_record}
unfoldable pub use Rattle.svn_dump.specs.Record.{content_of, record_of, with_content}
pub use Rattle.svn_dump.specs.Refusal.{action_refusals, content_refusals, grows_large, is_large, later_refusals, number_of_refusal, Reason, reason, revision_refusals, size_refusals}
unfoldable pub use Rattle.svn_dump.specs.Refusal.{first_holding, node_refusals, refusals_by}
pub use Rattle.svn_dump.specs.Tree.{end_tree, Entry, entry_of_copy, first_tree, is_there, mergeinfo_after, Tree, tree_after_record, tree_from_revision, tree_of, tree_with_mergeinfo, tree_without, with_revision}
unfoldable pub use Rattle.svn_dump.specs.Tree.{entry_at, start_tree, tree_after_action, trees_of}
pub use Rattle.svn_dump.specs.declared.error.DumpError.{DumpError}
pub use Rattle.svn_dump.specs.declared.grammar.field.Field.TheVariants.{ContentLength, CopyfromPath, CopyfromRevision, NodeKind, NodePath, PropertiesDelta, PropertiesLength, RevisionNumber, TextDelta, TextLength, Uuid}
pub use Rattle.svn_dump.specs.declared.grammar.format.Format.{Format}
pub use Rattle.svn_dump.specs.declared.grammar.format.Format.TheVariants.{Three, Two}
pub use Rattle.svn_dump.specs.declared.pieces.partial_body.PartialBody.{PartialBody}
pub use Rattle.svn_dump.specs.declared.pieces.partial_line.PartialLine.{PartialLine}
pub use Rattle.svn_dump.specs.declared.pieces.reader.Reader.{Reader}
pub use Rattle.svn_dump.specs.declared.read_error.ReadError.{ReadError}
pub use Rattle.svn_dump.specs.declared.record.Kind.{Kind}
pub use Rattle.svn_dump.specs.declared.record.NodeRecord.{NodeRecord}
pub use Rattle.svn_dump.specs.declared.refusal.Refusal.{Refusal}
pub use Rattle.svn_dump.specs.declared.refusal.Refusal.TheVariants.{BadPath, BadRecord, CopyRevision, Delta, Header, Length, Magic, Props, Revision, RevisionZero, RootAction, TooLarge, Truncated, Version}
pub use Rattle.svn_path.proofs.Belows.{append-from_below, below-append, below-itself, IsSame, IsSame-same_path, same_path-is}
pub use Rattle.svn_path.specs.Below.{below, is_below, parent_of, same_path}
pub use Rattle.svn_path.specs.Names.{IsTable, most_names, name_of, with_name, with_names}
pub use Rattle.svn_text.specs.Bytes.{is_colon, is_not_empty}
pub use Rattle.svn_text.specs.Line.{is_newline, line_text}
pub use Rattle.svn_text.specs.Number.{is_digit, number_of, number_up_to}
