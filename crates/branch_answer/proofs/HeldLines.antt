-- The lines of the revisions of a range that a path holds, the newest first.
use Rattle.std.proofs.Common.{◌≡◌, ◌∙◌, ℕ, zero, suc, ◌+◌, ◌-◌, ◌≤◌, false, List, [], ◌∷◌, ◌++◌, Option, None, Some, refl, sym, ap, ap₂, arith, append-nil, bytes_eq, filter_map, is_some, length, map, if◌then◌else◌}
use Rattle.std.specs.Prelude.{option_and_then, option_map}
use Rattle.std.specs.List.{cons_option, range_with_len}
use Rattle.std.proofs.lemmas.List.{map-append}
use Rattle.std.proofs.lemmas.List.Concat.{flat_map-append}
use Rattle.std.proofs.lemmas.List.Elements.{filter_map-append}
use Rattle.svn_text.specs.Line.{line_text}
use Rattle.svn_dump.proofs.Revisions.{tree_of_past}
use Rattle.svn_dump.specs.Dump.{DumpValue, IsDump, history_in_bytes}
use Rattle.svn_dump.specs.Location.{location}
use Rattle.svn_dump.specs.Record.{HistoryOfBytes}
use Rattle.svn_dump.specs.Tree.{is_there}
unfoldable use Rattle.svn_dump.specs.Tree.{entry_at}
use Rattle.svn_path.specs.Components.{parts_of}
use Rattle.merge_info.specs.CanonicalValue.{value_of}
use Rattle.merge_info.specs.Value.{Entry, MergeInfoValue}
use Rattle.range_list.specs.Rangelist.{inheritability_of}
use Rattle.path_index.proofs.DownFrom.{down_from-append, down_from_more}
use Rattle.path_index.specs.Operative.{down_from, is_operative}
use Rattle.query_answer.proofs.InBytes.{length-trees_in_bytes}
use Rattle.query_answer.specs.Answer.{TreesOfBytes}
use Rattle.query_answer.specs.Peg.{Peg}
use Rattle.query_answer.specs.Repo.{peg_in_bytes, trees_in_bytes}
use Rattle.query_answer.specs.declared.target.PathRev.{PathRev}
use Rattle.branch_answer.specs.Explicit.{ExplicitTexts}
use Rattle.branch_answer.specs.HeldRevisions.{count_in, holding_in}
use Rattle.branch_answer.specs.Holding.{Holding, either_way, entry_has, explicit_below, in_part_below, held_line, held_lines, holding_of, in_history, is_in_history, merged_or_below, text_holds, those_held}
unfoldable use Rattle.branch_answer.specs.Holding.{first_below, value_holds}
use Rattle.branch_answer.specs.KeptHolding.{holding_view}
use Rattle.branch_answer.specs.KeptHoldings.{held_text, holdings_text}
unfoldable use Rattle.branch_answer.specs.KeptHoldings.{held_from}
use Rattle.branch_answer.specs.QuestionAnswer.{lines_text}
use Rattle.branch_answer.specs.declared.holdings.Holdings.{Holdings}
use Rattle.branch_answer.proofs.HeldEntries.{is_operative-nowhere}
use Rattle.branch_answer.proofs.Lists.{filter_map_down-none}

-- ---- nothing is held past the youngest revision

module _ (history : HistoryOfBytes) (trees : TreesOfBytes) (rev : ℕ) (past : length trees ≤ rev) where
  not_operative : (path : List (List ℕ)) → is_operative bytes_eq history trees path rev ≡ false
  unfolding entry_at
  not_operative path = is_operative-nowhere history trees path rev (ap (λ tree. is_there bytes_eq tree path) (tree_of_past trees rev past))

  not_in_history : (peg : Peg) → is_in_history history trees peg rev ≡ false
  not_in_history peg = by (location bytes_eq trees peg.path peg.rev rev)
    where
      by : (located : Option (List (List ℕ))) → is_some (option_and_then (λ here. if is_operative bytes_eq history trees here rev then Some here else None) located) ≡ false
      by None = refl
      by (Some here) = ap (λ b. is_some (if b then Some here else None)) (not_operative here)

  entry_has-past : (entry : Entry) → entry_has history trees entry rev ≡ None
  entry_has-past entry = ap (λ b. if b then inheritability_of entry.runs rev else None) (not_operative (parts_of entry.path))

  value_holds-past : (value : MergeInfoValue) → value_holds history trees value rev ≡ None
  unfolding value_holds
  value_holds-past [] = refl
  value_holds-past (entry ∷ entries) = ap₂ either_way (entry_has-past entry) (value_holds-past entries)

  text_holds-past : (text : List ℕ) → text_holds history trees text rev ≡ None
  text_holds-past text = by (value_of text)
    where
      by : (value : Option MergeInfoValue) → option_and_then (λ each. value_holds history trees each rev) value ≡ None
      by None = refl
      by (Some value) = value_holds-past value

  first_below-past : (texts : ExplicitTexts) → first_below history trees texts rev ≡ None
  unfolding first_below
  first_below-past [] = refl
  first_below-past (each ∷ texts) = (λ i. if is_some (text_holds-past each.1 i) then Some (in_part_below each.0) else first_below history trees texts rev) ∙ first_below-past texts

  holding_of-past : (peg : Peg) (value : MergeInfoValue) (texts : ExplicitTexts) → holding_of history trees peg value texts rev ≡ None
  holding_of-past peg value texts =
      λ i. if not_in_history peg i then Some in_history else merged_or_below history trees (value_holds-past value i) (first_below-past texts i)

-- ---- lines

module _ (how : ℕ → Option Holding) where
  -- what is held of a revision, with the revision
  abbrev pub held : ℕ → Option (ℕ × Holding)
  held rev = option_map (λ each. (rev, each)) (how rev)

  one_line : (rev : ℕ) → lines_text (held_lines (cons_option (held rev) [])) ≡ held_text rev (how rev)
  one_line rev = by (how rev)
    where
      by : (each : Option Holding) → lines_text (held_lines (cons_option (option_map (λ one. (rev, one)) each) [])) ≡ held_text rev each
      by None = refl
      by (Some each) = append-nil (line_text (held_line (rev, each)))

  lines_text-append : (front back : List (ℕ × Holding)) → lines_text (held_lines (front ++ back)) ≡ lines_text (held_lines front) ++ lines_text (held_lines back)
  lines_text-append front back = ap lines_text (map-append held_line front back) ∙ flat_map-append line_text (held_lines front) (held_lines back)

  -- the lines of neighbouring revisions
  held_from-lines : (first n top : ℕ) → top + 1 ≡ first + n → held_from first (map how (range_with_len first n)) ≡ lines_text (held_lines (filter_map held (down_from n top)))
  unfolding held_from
  held_from-lines first zero top is = refl
  held_from-lines first (suc n) top is =
      let next : first + 1 ≡ suc first = omega arith in
      let last : top - n ≡ first = omega (arith, is) in
      ap (λ from. held_from from (map how (range_with_len (first + 1) n)) ++ held_text first (how first)) (sym next)
      ∙ ap (λ text. text ++ held_text first (how first)) (held_from-lines (first + 1) n top (omega (arith, is)))
      ∙ ap (λ text. lines_text (held_lines (filter_map held (down_from n top))) ++ text) (sym (one_line first))
      ∙ sym (ap (λ revs. lines_text (held_lines (filter_map held revs))) (down_from_more n top ∙ ap (λ rev. down_from n top ++ rev ∷ []) last)
      ∙ ap (λ all. lines_text (held_lines all)) (filter_map-append held (down_from n top) (first ∷ []))
      ∙ lines_text-append (filter_map held (down_from n top)) (cons_option (held first) []))

-- ---- of a range

-- how many revisions the range has
abbrev asked : ℕ × ℕ → ℕ
asked range = range.1 + 1 - range.0

-- the greatest of the range that the dump has
abbrev pub newest_of : ℕ × ℕ → ℕ → ℕ
newest_of range count = range.1 - (asked range - count)

module _ (dump : DumpValue) (range : ℕ × ℕ) (how : ℕ → Option Holding) (none_past : (rev : ℕ) → length dump.counts ≤ rev → how rev ≡ None) where
  -- the revisions of the range that the dump has are enough
  pub those_held-counted : those_held how range ≡ filter_map (held how) (down_from (count_in dump range) (newest_of range (count_in dump range)))
  those_held-counted =
      let count = count_in dump range in
      let past = asked range - count in
      let rest = down_from count (range.1 - past) in
      ap (filter_map (held how)) (down_from-append past count (asked range) range.1 (omega arith))
      ∙ filter_map-append (held how) (down_from past range.1) rest
      ∙ ap (λ front. front ++ filter_map (held how) rest)
      (filter_map_down-none (held how) past range.1 (λ each to from. ap (option_map (λ one. (each, one))) (none_past each (omega (arith, to, from)))))

  lines_of-counted : (count : ℕ) → count_in dump range ≡ count
      → held_from range.0 (map how (range_with_len range.0 count)) ≡ lines_text (held_lines (filter_map (held how) (down_from count (newest_of range count))))
  unfolding held_from
  lines_of-counted zero is = refl
  lines_of-counted (suc count) is = held_from-lines how range.0 (suc count) (newest_of range (suc count)) (omega (arith, is))

  pub those_held-text : (below : List (List ℕ)) (holdings : Holdings) → holdings.first ≡ range.0
      → map (holding_view below) holdings.how.items ≡ map how (range_with_len range.0 (count_in dump range))
      → holdings_text below holdings.first holdings.how.items ≡ lines_text (held_lines (those_held how range))
  those_held-text below holdings first are =
      (λ i. held_from (first i) (are i)) ∙ lines_of-counted (count_in dump range) refl ∙ ap (λ all. lines_text (held_lines all)) (sym those_held-counted)

-- ---- of a path

module _ (dump : DumpValue) (kept : IsDump dump) (at : PathRev) (value : MergeInfoValue) where
  pub holding_in-past : (rev : ℕ) → length dump.counts ≤ rev → holding_in dump at value rev ≡ None
  holding_in-past rev past =
      let history = history_in_bytes dump in
      let trees = trees_in_bytes dump in
      holding_of-past history trees rev (omega (arith, past, length-trees_in_bytes dump kept)) (peg_in_bytes dump at) value (explicit_below history trees (peg_in_bytes dump at))
