-- The names that most proofs cite, passed on from one place. Declares nothing.
pub use Rattle.std.proofs.Common.{[], ◌&&◌, ◌*◌, ◌++◌, ◌+◌, ◌-◌, ◌<◌, ◌==◌, ◌^◌, ◌||◌, ◌∙◌, ◌∷◌, ◌≡◌, ◌≢◌, ◌≤◌, add-one, All, ap, append-nil, ap₂, arith, Bool, bytes_eq, cond, decimal, drop, eq-eqb, Err, false, filter, fold, get_or, IfSome, inl, inr, length, List, map, max, nat_le, nat_lt, None, not, Option, Ordering, refl, rules, Some, subst, suc, sym, take, tests, true, unwrap_or, zero, ℕ}
pub use Rattle.std.proofs.lemmas.Bool.{and_parts, both_ways, cases_Bool, cases_lt, cases_order, cond-false, eqb-false, eqb-true, false_from_ne_true, false≢true, iff_false, le-leb, lt-ltb, ltb-false, ltb-true, ne_eqb, not-true, or_from}
pub use Rattle.std.proofs.lemmas.Bool.Decides.{nat_tests}
pub use Rattle.std.proofs.lemmas.Cmp.{eq_by_cmp_equiv, nat_list_cmp_total, nat_list_eq_equiv}
pub use Rattle.std.proofs.lemmas.Grind.{common_steps}
pub use Rattle.std.proofs.lemmas.List.{append_assoc, append_cancel_right, drop_all, drop_more, get_or-map, get_or_append_left, length-append, length-map, length_push, map_push, take-map, take_at}
pub use Rattle.std.proofs.lemmas.List.Elements.{All-append, All-cons, All-filter, All-head, All-map, All-nil, All-push, All-rest, All-tail, All-take, All-weaker, filter_passes}
pub use Rattle.std.proofs.lemmas.List.Folds.{Any-from_list_any, list_any_at, list_any_none}
pub use Rattle.std.proofs.lemmas.List.Sorted.{All-permutation, IsNonDecreasingBy-from_all_adjacent, IsNonDecreasingBy-from_sort_by_key, IsPartitionPoint-from_clause, list_any-IsPermutation}
pub use Rattle.std.proofs.lemmas.Slice.Eq.{bytes_eq-Decides}
pub use Rattle.std.specs.Cmp.Lexicographic.{lists_agrees, slice_cmp, slice_partial_cmp}
pub use Rattle.std.specs.Io.BufRead.{strip_last}
pub use Rattle.std.specs.List.{after_first, after_last, AllAdjacentBelow, before_first, before_last, IsAllAdjacentAnswer, join_with_byte, list_all, list_any, onto_first, position_or_len, prefix_len, slice_split}
pub use Rattle.std.specs.List.Sorted.{IsNonDecreasingBy, IsPartitionedBy, IsPartitionPoint, IsPermutation, IsStrictlySortedBy}
pub use Rattle.std.specs.Ordering.{is_eq, is_le, is_lt, is_some_and, match_ordering, nat_cmp, ordering_reverse}
pub use Rattle.std.specs.Prelude.{if◌then◌else◌, option_and_then, option_map}
pub use Rattle.std.specs.declared.cmp.Ordering.TheVariants.{Equal, Greater, Less}
pub use Rattle.merge_info.specs.CanonicalValue.{entry_at, has_runs, inherited_value, insert_path, is_some_run, paths_of}
unfoldable pub use Rattle.merge_info.specs.CanonicalValue.{canonical_value}
pub use Rattle.merge_info.specs.Element.{is_dash, revision_of, run_of}
unfoldable pub use Rattle.merge_info.specs.Element.{element_of}
pub use Rattle.merge_info.specs.Field.{fields_left}
pub use Rattle.merge_info.specs.Inherited.{inherited_line, inherited_lines, inherited_revision, is_before_below, KeepTheirOrder, path_below, stays_before}
pub use Rattle.merge_info.specs.Line.{all_of, clashes, is_blank, is_comma, IsLine, IsPrintedPath, Line, line_from, line_view, without_blanks}
unfoldable pub use Rattle.merge_info.specs.Line.{elements_of, has_clash, line_of}
pub use Rattle.merge_info.specs.RunsByPath.{AddsLine, AreRunsByPath, lines_in, RunsByPath}
pub use Rattle.merge_info.specs.Text.{printed_entry, value_text}
pub use Rattle.merge_info.specs.Value.{AreRising, entry_view, HasSameRevisions, IsBefore, IsEntry, IsMergeInfo, IsOnlyMergeInfo, IsOnOneLine, lines_between, MergeInfoValue, ranges_of, runs_at, some_runs, text_lines}
unfoldable pub use Rattle.merge_info.specs.Value.{lines_of}
pub use Rattle.merge_info.specs.declared.entry.Entry.{Entry}
pub use Rattle.range_list.proofs.Canonical.{AreRuns-from_canonical, IsCanonical-filter, IsCanonical-head, IsCanonical-tail, IsInheritablePart-filter}
pub use Rattle.range_list.proofs.Maximal.{canonical_runs-HasSameNumbers, canonical_runs-IsCanonical, is_inheritable-out}
pub use Rattle.range_list.proofs.Same.{HasSameNumbers-append, HasSameNumbers-refl, HasSameNumbers-sym, HasSameNumbers-trans}
pub use Rattle.range_list.specs.Rangelist.{inheritability_of, inheritable_runs, IsCanonical, IsRun}
pub use Rattle.range_list.specs.declared.run.Run.{Run}
pub use Rattle.svn_path.proofs.Components.{components-parts_of, parts_of-path_text}
pub use Rattle.svn_path.specs.Components.{HasDot, is_dot, is_slash, IsComponent, parts_of, parts_text, path_text}
pub use Rattle.svn_text.proofs.Cuts.{after_last-cut, after_last-whole, before_last-cut, before_last-whole, CutsFirst-IsCutAt, list_any-cut, slice_split-cut, slice_split-uncut}
pub use Rattle.svn_text.proofs.Lines.{Lacks-digits, list_any-Lacks}
pub use Rattle.svn_text.specs.Bytes.{is_colon, is_not_empty}
pub use Rattle.svn_text.specs.Cut.{IsCutAt, IsCutAtLast, Lacks}
pub use Rattle.svn_text.specs.Line.{is_newline}
