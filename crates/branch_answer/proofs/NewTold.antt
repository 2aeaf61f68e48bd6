-- What is told of what one path holds beyond another one.
use Rattle.std.proofs.Common.{◌≡◌, ◌∙◌, ℕ, Bool, true, false, List, Option, None, nat_lt, refl, ap, sym, subst, arith, length, map, if◌then◌else◌}
use Rattle.std.specs.List.{range_with_len}
use Rattle.range_list.specs.Rangelist.{is_in}
use Rattle.range_list.specs.declared.run.Run.{Run}
use Rattle.svn_dump.specs.Dump.{DumpValue, IsDump, history_in_bytes}
use Rattle.query_answer.specs.Answer.{Answer, ok_answer}
use Rattle.query_answer.specs.Peg.{peg_view}
use Rattle.query_answer.specs.Repo.{trees_in_bytes}
use Rattle.query_answer.specs.declared.unanswered.Unanswered.{Unanswered}
use Rattle.branch_answer.specs.HeldRevisions.{count_in, holding_in}
use Rattle.branch_answer.specs.Holding.{Holding, those_held}
use Rattle.branch_answer.specs.KeptHolding.{holding_view}
use Rattle.branch_answer.specs.KeptHoldings.{texts_of}
use Rattle.branch_answer.specs.KeptNew.{AreNewOf, AreNewOnly, AreNumbers, AreOfRangelist, IsComparisonRefused, IsHeldBy, IsHeldIn, IsHolderRefused, IsRangelistRefused, holder_in_bytes}
use Rattle.branch_answer.specs.NewRevisions.{Holder, extent, more_held, new_in}
use Rattle.branch_answer.specs.Question.{comparison_view}
use Rattle.branch_answer.specs.QuestionAnswer.{comparison_answer, range_or_all, with_holder}
use Rattle.branch_answer.specs.Told.{IsUntold}
use Rattle.branch_answer.specs.declared.holdings.Holdings.{Holdings}
use Rattle.branch_answer.specs.declared.new_revisions.Held.{Held}
use Rattle.branch_answer.specs.declared.question.Comparison.{Comparison}
use Rattle.branch_answer.proofs.HeldLines.{holding_in-past}
use Rattle.branch_answer.proofs.HoldersTold.{with_rangelist-runs}
use Rattle.branch_answer.proofs.NewCells.{cells-new, either_way, length-cells, newly}

-- ---- revisions

-- the revisions of a range that the dump has
pub AreNumbers-held : (dump : DumpValue) (kept : IsDump dump) (range : ℕ × ℕ) (how : ℕ → Option Holding) (below : List (List ℕ)) (holdings : Holdings)
    → holdings.first ≡ range.0 → map (holding_view below) holdings.how.items ≡ map how (range_with_len range.0 (count_in dump range)) → AreNumbers holdings
AreNumbers-held dump kept range how below holdings first are k within =
    omega (arith, within, first, length-cells range.0 (count_in dump range) how below holdings.how.items are, kept.few_revisions)

-- two paths hold as many
pub length-held : (dump : DumpValue) (range : ℕ × ℕ) (one : Held) → IsHeldIn dump range one → length one.holdings.how.items ≡ count_in dump range
length-held dump range one is =
    length-cells range.0 (count_in dump range) (holding_in dump one.at one.value) (texts_of dump.names one.below.items) one.holdings.how.items is.are.how

-- ---- a comparison

newly-none : (out : Bool) (one : Option Holding) → (if out then None else more_held one None) ≡ None
newly-none true one = refl
newly-none false one = either_way None (nat_lt (extent one) 0)

module _ (dump : DumpValue) (comparison : Comparison) where
  abbrev Lines : Type 0
  Lines = List (ℕ × Holding) → List (List ℕ)

  abbrev answer_with : Lines → Answer
  answer_with lines = comparison_answer (history_in_bytes dump) (trees_in_bytes dump) lines (comparison_view comparison)

  abbrev by_both : Lines → List Run → Holder → Holder → Answer
  by_both lines uncounted one other =
      ok_answer (lines (new_in (history_in_bytes dump) (trees_in_bytes dump) one other (range_or_all (trees_in_bytes dump) comparison.range) uncounted))

  abbrev by_one : Lines → List Run → Holder → Answer
  by_one lines uncounted one = with_holder (trees_in_bytes dump) (peg_view comparison.other) (by_both lines uncounted one)

  abbrev by_runs : Lines → List Run → Answer
  by_runs lines uncounted = with_holder (trees_in_bytes dump) (peg_view comparison.one) (by_one lines uncounted)

  pub IsComparisonRefused-rangelist : (error : Unanswered) → IsRangelistRefused comparison.uncounted.now error → IsComparisonRefused dump (comparison_view comparison) error
  IsComparisonRefused-rangelist error refused lines = refused (by_runs lines)

  module _ (ranges : List Run) (are : AreOfRangelist comparison.uncounted.now ranges) where
    answer-runs : (lines : Lines) → answer_with lines ≡ by_runs lines are.runs
    answer-runs lines = with_rangelist-runs comparison.uncounted.now ranges are (by_runs lines)

    pub IsComparisonRefused-one : (error : Unanswered) → IsHolderRefused dump comparison.one error → IsComparisonRefused dump (comparison_view comparison) error
    IsComparisonRefused-one error refused lines =
        subst (λ answer. IsUntold answer error) (sym (answer-runs lines)) (refused (by_one lines are.runs))

    module _ (range : ℕ × ℕ) (range_is : range ≡ range_or_all (trees_in_bytes dump) comparison.range) (one : Held) (one_is : IsHeldBy dump comparison.one range one) where
      answer-one : (lines : Lines) → answer_with lines ≡ by_one lines are.runs (holder_in_bytes dump one)
      answer-one lines = answer-runs lines ∙ one_is.answered (by_one lines are.runs)

      pub IsComparisonRefused-other : (error : Unanswered) → IsHolderRefused dump comparison.other error → IsComparisonRefused dump (comparison_view comparison) error
      IsComparisonRefused-other error refused lines =
          subst (λ answer. IsUntold answer error) (sym (answer-one lines)) (refused (by_both lines are.runs (holder_in_bytes dump one)))

      -- what is left of what the other one holds
      pub AreNewOf-kept : (other : Held) → IsHeldBy dump comparison.other range other → (holdings : Holdings) → AreNewOnly one.holdings ranges other.holdings holdings
          → AreNewOf dump (comparison_view comparison) (record other { holdings = holdings })
      AreNewOf-kept other other_is holdings new =
          let held_one = holding_in dump one.at one.value in
          let held_other = holding_in dump other.at other.value in
          record {
            how = newly held_one held_other ranges;
            range = range;
            kept = one_is.is.kept;
            of_names = other_is.is.of_names;
            none_past = λ rev past.
                ap (λ each. if is_in ranges rev then None else more_held (held_one rev) each) (holding_in-past dump one_is.is.kept other.at other.value rev past)
                ∙ newly-none (is_in ranges rev) (held_one rev);
            first = new.first ∙ other_is.is.are.first;
            are = cells-new range.0 (count_in dump range) held_one held_other (texts_of dump.names one.below.items) (texts_of dump.names other.below.items) ranges
                one.holdings other.holdings holdings other_is.is.are.first one_is.is.are.how other_is.is.are.how new;
            answered = λ lines.
                answer-one lines
                ∙ other_is.answered (by_both lines are.runs (holder_in_bytes dump one))
                ∙ (λ i. ok_answer (lines (those_held (λ rev. if are.same rev i then None else more_held (held_one rev) (held_other rev)) (sym range_is i))));
          }
