-- The runs of the revisions of a range that are held.
use Rattle.std.proofs.Common.{◌≡◌, ◌∙◌, ℕ, zero, suc, ◌+◌, ◌-◌, ◌<◌, ◌≤◌, ◌||◌, true, List, [], ◌∷◌, ◌++◌, All, Option, None, Some, refl, sym, ap, ap₂, subst, arith, append_assoc, append-nil, filter_map, get_or, length, map, take, if◌then◌else◌}
use Rattle.std.specs.Prelude.{option_map}
use Rattle.std.specs.List.{cons_option, range_with_len}
use Rattle.std.proofs.lemmas.Bool.{both_ways}
use Rattle.std.proofs.lemmas.List.{length-map, length-take-le, map-append, map_more}
use Rattle.std.proofs.lemmas.List.Elements.{All-head, filter_map-append}
use Rattle.std.proofs.lemmas.List.Sorted.{IsPermutation-append_comm}
use Rattle.svn_text.specs.Line.{line_text}
use Rattle.svn_text.specs.Number.{greatest_revision}
use Rattle.path_index.specs.Operative.{down_from}
use Rattle.range_list.proofs.Same.{HasSameNumbers-append, HasSameNumbers-permutation, HasSameNumbers-refl, HasSameNumbers-trans, covers-within}
unfoldable use Rattle.range_list.specs.Canonical.{canonical_runs}
use Rattle.range_list.specs.Canonical.{runs_from}
use Rattle.range_list.specs.Rangelist.{HasSameNumbers, IsRun, is_in}
use Rattle.range_list.specs.Text.{rangelist_text}
use Rattle.range_list.specs.declared.run.Run.{Run}
use Rattle.svn_dump.specs.Dump.{DumpValue}
use Rattle.branch_answer.specs.HeldRevisions.{count_in}
use Rattle.branch_answer.specs.Holding as view
use Rattle.branch_answer.specs.Holding.{those_held}
use Rattle.branch_answer.specs.KeptHolding.{holding_view}
use Rattle.branch_answer.specs.KeptNew.{held_run, runs_text}
unfoldable use Rattle.branch_answer.specs.KeptNew.{held_runs_from}
use Rattle.branch_answer.specs.NewRevisions.{rangelist_lines, run_of_held}
use Rattle.branch_answer.specs.QuestionAnswer.{lines_text}
use Rattle.branch_answer.specs.declared.holding.Holding.{Holding}
use Rattle.branch_answer.specs.declared.holding.Holding.TheVariants.{Below, InHistory, InPart, Merged, Not}
use Rattle.branch_answer.specs.declared.holdings.Holdings.{Holdings}
use Rattle.branch_answer.proofs.HeldLines.{held, newest_of, those_held-counted}
use Rattle.path_index.proofs.DownFrom.{down_from_more}

-- ---- one revision after another

pub held_runs_from-push : (rev : ℕ) (how : List (Option view.Holding)) (one : Option view.Holding)
    → held_runs_from rev (how ++ one ∷ []) ≡ held_runs_from rev how ++ held_run (rev + length how) one
unfolding held_runs_from
held_runs_from-push rev [] one =
    let same : rev + 0 ≡ rev = omega arith in
    append-nil (held_run rev one) ∙ ap (λ each. held_run each one) (sym same)
held_runs_from-push rev (first ∷ how) one =
    let same : rev + 1 + length how ≡ rev + suc (length how) = omega arith in
    ap (λ runs. held_run rev first ++ runs) (held_runs_from-push (rev + 1) how one ∙ ap (λ each. held_runs_from (rev + 1) how ++ held_run each one) same)
    ∙ sym (append_assoc (held_run rev first) (held_runs_from (rev + 1) how) (held_run (rev + suc (length how)) one))

pub held_runs_from-none : (rev : ℕ) → held_runs_from rev [] ≡ []
unfolding held_runs_from
held_runs_from-none rev = refl

pub held_runs_from-more : (rev : ℕ) (how : List Holding) (i : ℕ) → i < length how
    → held_runs_from rev (map (holding_view []) (take (i + 1) how))
    ≡ held_runs_from rev (map (holding_view []) (take i how)) ++ held_run (rev + i) (holding_view [] (get_or how i Not))
held_runs_from-more rev how i within =
    let before = map (holding_view []) (take i how) in
    let one = holding_view [] (get_or how i Not) in
    let many : length before ≡ i = omega (arith, length-map (take i how) (holding_view []), length-take-le i how (omega (arith, within))) in
    ap (held_runs_from rev) (map_more (holding_view []) how i Not within)
    ∙ held_runs_from-push rev before one
    ∙ ap (λ count. held_runs_from rev before ++ held_run (rev + count) one) many

-- the paths below don't matter
held_run-texts : (texts other : List (List ℕ)) (rev : ℕ) (how : Holding) → held_run rev (holding_view texts how) ≡ held_run rev (holding_view other how)
held_run-texts texts other rev Not = refl
held_run-texts texts other rev (Below index) = refl
held_run-texts texts other rev InPart = refl
held_run-texts texts other rev Merged = refl
held_run-texts texts other rev InHistory = refl

held_runs_from-texts : (texts other : List (List ℕ)) (rev : ℕ) (how : List Holding) → held_runs_from rev (map (holding_view texts) how) ≡ held_runs_from rev (map (holding_view other) how)
unfolding held_runs_from
held_runs_from-texts texts other rev [] = refl
held_runs_from-texts texts other rev (one ∷ how) = ap₂ (λ a b. a ++ b) (held_run-texts texts other rev one) (held_runs_from-texts texts other (rev + 1) how)

-- ---- the newest first

module _ (how : ℕ → Option view.Holding) where
  abbrev runs_down : ℕ → ℕ → List Run
  runs_down n top = map run_of_held (filter_map (held how) (down_from n top))

  one_run : (rev : ℕ) → map run_of_held (cons_option (held how rev) []) ≡ held_run rev (how rev)
  one_run rev = by (how rev)
    where
      by : (each : Option view.Holding) → map run_of_held (cons_option (option_map (λ one. (rev, one)) each) []) ≡ held_run rev each
      by None = refl
      by (Some each) = refl

  runs_down-more : (n top first : ℕ) → top - n ≡ first → runs_down (suc n) top ≡ runs_down n top ++ held_run first (how first)
  runs_down-more n top first last =
      ap (λ revs. map run_of_held (filter_map (held how) revs)) (down_from_more n top ∙ ap (λ rev. down_from n top ++ rev ∷ []) last)
      ∙ ap (map run_of_held) (filter_map-append (held how) (down_from n top) (first ∷ []))
      ∙ map-append run_of_held (filter_map (held how) (down_from n top)) (cons_option (held how first) [])
      ∙ ap (λ runs. runs_down n top ++ runs) (one_run first)

  held_runs_from-down : (first n top : ℕ) → top + 1 ≡ first + n → HasSameNumbers (held_runs_from first (map how (range_with_len first n))) (runs_down n top)
  unfolding held_runs_from
  held_runs_from-down first zero top is = HasSameNumbers-refl []
  held_runs_from-down first (suc n) top is =
      let one = held_run first (how first) in
      let others = held_runs_from (first + 1) (map how (range_with_len (first + 1) n)) in
      subst (HasSameNumbers (one ++ others)) (sym (runs_down-more n top first (omega (arith, is))))
      (HasSameNumbers-trans (one ++ others) (others ++ one) (runs_down n top ++ one) (HasSameNumbers-permutation (one ++ others) (others ++ one) (IsPermutation-append_comm one others))
      (HasSameNumbers-append others (runs_down n top) one one (held_runs_from-down (first + 1) n top (omega (arith, is))) (HasSameNumbers-refl one)))

-- ---- of a range

module _ (dump : DumpValue) (range : ℕ × ℕ) (how : ℕ → Option view.Holding) (none_past : (rev : ℕ) → length dump.counts ≤ rev → how rev ≡ None) where
  runs_of-counted : (count : ℕ) → count_in dump range ≡ count → HasSameNumbers (held_runs_from range.0 (map how (range_with_len range.0 count))) (runs_down how count (newest_of range count))
  unfolding held_runs_from
  runs_of-counted zero is = HasSameNumbers-refl []
  runs_of-counted (suc count) is = held_runs_from-down how range.0 (suc count) (newest_of range (suc count)) (omega (arith, is))

  those_held-runs : (below : List (List ℕ)) (holdings : Holdings) → holdings.first ≡ range.0
      → map (holding_view below) holdings.how.items ≡ map how (range_with_len range.0 (count_in dump range))
      → HasSameNumbers (held_runs_from holdings.first (map (holding_view []) holdings.how.items)) (map run_of_held (those_held how range))
  those_held-runs below holdings first are =
      subst (λ runs. HasSameNumbers runs (map run_of_held (those_held how range)))
      (sym (held_runs_from-texts [] below holdings.first holdings.how.items ∙ (λ i. held_runs_from (first i) (are i))))
      (subst (λ all. HasSameNumbers (held_runs_from range.0 (map how (range_with_len range.0 (count_in dump range)))) (map run_of_held all)) (sym (those_held-counted dump range how none_past))
      (runs_of-counted (count_in dump range) refl))

-- ---- the line

canonical_runs-same : (a b : List Run) → HasSameNumbers a b → canonical_runs a ≡ canonical_runs b
unfolding canonical_runs
canonical_runs-same a b same = λ i. runs_from (λ n. if (same n).0 i then Some ((same n).1 i) else None) 1 greatest_revision

pub runs_text-some : (runs : List Run) → 0 < length runs → runs_text runs ≡ line_text (rangelist_text (canonical_runs runs))
runs_text-some [] some = absurd (omega (arith, some))
runs_text-some (run ∷ runs) some = refl

-- each run has a number
has_number : (run : Run) (runs : List Run) → run.lo ≤ run.hi → is_in (run ∷ runs) run.lo ≡ true
has_number run runs ordered = ap (λ b. b || is_in runs run.lo) (covers-within run run.lo (omega arith) ordered)

rangelist_lines-text : (runs : List Run) (all : List (ℕ × view.Holding)) → All IsRun runs → HasSameNumbers runs (map run_of_held all) → runs_text runs ≡ lines_text (rangelist_lines all)
rangelist_lines-text [] [] are same = refl
rangelist_lines-text [] (one ∷ all) are same =
    absurd (both_ways _ (sym (same one.0).0) (has_number (run_of_held one) (map run_of_held all) (omega arith)))
rangelist_lines-text (run ∷ runs) [] are same =
    absurd (both_ways _ (same run.lo).0 (has_number run runs (All-head IsRun run runs are).ordered))
rangelist_lines-text (run ∷ runs) (one ∷ all) are same =
    ap (λ each. line_text (rangelist_text each)) (canonical_runs-same (run ∷ runs) (map run_of_held (one ∷ all)) same)
    ∙ sym (append-nil (line_text (rangelist_text (canonical_runs (map run_of_held (one ∷ all))))))

module _ (dump : DumpValue) (range : ℕ × ℕ) (how : ℕ → Option view.Holding) (none_past : (rev : ℕ) → length dump.counts ≤ rev → how rev ≡ None) where
  pub those_held-rangelist : (below : List (List ℕ)) (holdings : Holdings) → holdings.first ≡ range.0
      → map (holding_view below) holdings.how.items ≡ map how (range_with_len range.0 (count_in dump range))
      → All IsRun (held_runs_from holdings.first (map (holding_view []) holdings.how.items))
      → runs_text (held_runs_from holdings.first (map (holding_view []) holdings.how.items)) ≡ lines_text (rangelist_lines (those_held how range))
  those_held-rangelist below holdings first are runs =
      rangelist_lines-text (held_runs_from holdings.first (map (holding_view []) holdings.how.items)) (those_held how range) runs (those_held-runs dump range how none_past below holdings first are)
