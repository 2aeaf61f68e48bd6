-- The names that most proofs cite, passed on from one place. Declares nothing.
pub use Rattle.std.proofs.Common.{[], ◌*◌, ◌++◌, ◌+◌, ◌-◌, ◌<◌, ◌==◌, ◌^◌, ◌∙◌, ◌∷◌, ◌≡◌, ◌≤◌, ◌⊎◌, All, ap, append-nil, ap₂, arith, drop, false, get_or, inl, inr, IsFalse, length, length-append, length-drop, length-take, List, map, min, None, Option, option_map, refl, rules, slice_get, slice_index_or, Some, subst, suc, sum, sym, take, true≢false, vec_len, zero, ℕ}
pub use Rattle.std.proofs.lemmas.List.{drop_all, drop_at, ext_get_or, get_or-map, get_or_default, length-map, length-take-le, length_push, map-append, map_push, take-append-drop, take-append-le, take-map, take-take, take_all}
pub use Rattle.std.proofs.lemmas.List.Sums.{sum_by-append, sum_by-cons, sum_by-take-le}
pub use Rattle.std.proofs.lemmas.Result.{err_from_is_err_and, IfErr-weaker, IfOk-weaker}
pub use Rattle.std.specs.List.{flat_map, range_with_len, slice_range, sum_by}
pub use Rattle.block_map.specs.Ends.{end_of, ends_of, ends_view, HasSourceBefore, HaveSources, record_at_tick}
pub use Rattle.par_scan.specs.Chain.{act_all, AreJoinedUpTo, IsChain, IsJoined, Meet}
pub use Rattle.query_answer.proofs.InBytes.{first_fault-in_bytes}
pub use Rattle.svn_dump.specs.Dump.{DumpValue, history_in_bytes, history_view, IsDump, record_view, revisions_from}
pub use Rattle.svn_dump.specs.declared.record.NodeRecord.{NodeRecord}
pub use Rattle.svn_path.specs.Path.{same_name}
pub use Rattle.svn_report.specs.Answering.{answers_to_batch, IsTextAt, lent_lines, partial_text}
pub use Rattle.svn_report.specs.Blocks.{AreBorders, HasBlock, IsIndexOfBlock, IsMapOfBlock}
pub use Rattle.svn_report.specs.Cutting.{AreBlockEnds, AreBordersLeft, AreGroupBorders, block_length, distance, end_of_blocks, IsGroupEnd, last_border, LeavesBlocks}
pub use Rattle.svn_report.specs.LoadRepo.{AreOfDumpBefore, IsLoadError}
pub use Rattle.svn_report.specs.QueryLines.{query_lines, without_last_empty}
pub use Rattle.svn_report.specs.RecordEnds.{AreRecordEnds, sum_at, sum_of}
pub use Rattle.svn_report.specs.Report.{answers, answers_from, most_queries}
unfoldable pub use Rattle.svn_report.specs.Report.{texts_from}
