-- What is told of distances.
use Rattle.std.proofs.Common.{◌≡◌, ◌∙◌, ℕ, ◌+◌, ◌-◌, ◌<◌, ◌++◌, [], ◌∷◌, Bool, not, List, Option, None, Some, refl, ap, sym, subst, arith, bytes_eq, codes, decimal, length, map, if◌then◌else◌}
use Rattle.std.specs.Prelude.{option_map}
use Rattle.std.specs.List.{range_with_len}
use Rattle.std.proofs.lemmas.List.FromFn.{length-map-range_with_len}
use Rattle.std.proofs.lemmas.List.Folds.{flat_map-map}
use Rattle.svn_text.specs.Line.{line_text}
use Rattle.range_list.specs.Rangelist.{is_in}
use Rattle.range_list.specs.declared.run.Run.{Run}
use Rattle.svn_dump.proofs.Revisions.{length-trees_of}
use Rattle.svn_dump.specs.Dump.{DumpValue, IsDump, history_in_bytes}
use Rattle.query_answer.proofs.InBytes.{length-trees_in_bytes}
use Rattle.query_answer.specs.Answer.{Answer, ok_answer, refused_answer}
use Rattle.query_answer.specs.Peg.{Peg, PegValue, peg_of, peg_value_of, peg_view}
use Rattle.query_answer.specs.Repo.{trees_in_bytes}
use Rattle.query_answer.specs.declared.status.Status.TheVariants as status
use Rattle.query_answer.specs.declared.unanswered.Unanswered.{Unanswered}
use Rattle.branch_answer.specs.HeldRevisions.{count_in, holding_in}
use Rattle.branch_answer.specs.Holding.{those_held}
use Rattle.branch_answer.specs.KeptHoldings.{texts_of}
use Rattle.branch_answer.specs.KeptNew.{AreCounted, AreOfRangelist, IsHeldBy, IsHeldIn, IsHolderRefused, IsRangelistRefused, count_new, holder_in_bytes, kept_distance_line, target_answer_in, targets_text}
use Rattle.branch_answer.specs.NewRevisions.{Holder, all_revisions, distance_line, holding_by_holder, more_held}
use Rattle.branch_answer.specs.QuestionAnswer.{distance_answer, lines_text, outcome_line, target_answer, with_holder}
use Rattle.branch_answer.specs.Told.{IsUntold}
use Rattle.branch_answer.specs.declared.counted.Counted.{Counted}
use Rattle.branch_answer.specs.declared.counted.Distance.{Distance}
use Rattle.branch_answer.specs.declared.new_revisions.Held.{Held}
use Rattle.branch_answer.proofs.HoldersTold.{with_rangelist-runs}
use Rattle.branch_answer.proofs.NewCounted.{count_new-held}
use Rattle.branch_answer.proofs.NewTold.{length-held}

-- ---- all revisions

some_of : (counts : List ℕ) → (counts ≡ [] → ⊥) → 0 < length counts
some_of [] some = absurd (some refl)
some_of (count ∷ counts) some = omega arith

module _ (dump : DumpValue) (kept : IsDump dump) where
  abbrev pub all : ℕ × ℕ
  all = all_revisions (trees_in_bytes dump)

  last_of : length (trees_in_bytes dump) - 1 + 1 ≡ length dump.counts
  last_of = omega (arith, length-trees_in_bytes dump kept, some_of dump.counts kept.some_revision)

  pub count_in-all : count_in dump all ≡ length dump.counts
  count_in-all = omega (arith, last_of)

  -- the revisions that a dump has
  pub length-history : length (history_in_bytes dump) ≡ length dump.counts
  length-history = sym (length-trees_of bytes_eq (history_in_bytes dump)) ∙ length-trees_in_bytes dump kept

pub length-counts : (dump : DumpValue) (counted : Counted) → AreCounted (length dump.counts) counted → length counted.counts.items ≡ length dump.counts
length-counts dump counted are = ap length are ∙ length-map-range_with_len (λ rev. not (is_in counted.uncounted rev)) 0 (length dump.counts)

-- as many as a path holds
pub length-all : (dump : DumpValue) (one : Held) (counted : Counted) → IsHeldIn dump (all_revisions (trees_in_bytes dump)) one → AreCounted (length dump.counts) counted
    → length one.holdings.how.items ≡ length counted.counts.items
length-all dump one counted is are = length-held dump (all_revisions (trees_in_bytes dump)) one is ∙ count_in-all dump is.kept ∙ sym (length-counts dump counted are)

-- ---- a target

module _ (dump : DumpValue) (one : Held) (counted : Counted) where
  abbrev answer_at : Option PegValue → Answer
  answer_at peg =
      target_answer (history_in_bytes dump) (trees_in_bytes dump) (holder_in_bytes dump one) counted.uncounted (option_map peg_view peg)

  abbrev by_other : Holder → Answer
  by_other other =
      ok_answer (distance_line (history_in_bytes dump) (trees_in_bytes dump) (holder_in_bytes dump one) other (all_revisions (trees_in_bytes dump)) counted.uncounted ∷ [])

  module _ (field : List ℕ) where
    pub target-bad : None ≡ peg_value_of field → target_answer_in dump one counted field ≡ refused_answer status.BadQuery
    target-bad none = ap answer_at (sym none)

    module _ (peg : PegValue) (is : Some peg ≡ peg_value_of field) where
      target-peg : target_answer_in dump one counted field ≡ with_holder (trees_in_bytes dump) (peg_view peg) by_other
      target-peg = ap answer_at (sym is)

      pub target-refused : (error : Unanswered) → IsHolderRefused dump peg error → IsUntold (target_answer_in dump one counted field) error
      target-refused error refused = subst (λ answer. IsUntold answer error) (sym target-peg) (refused by_other)

      pub target-distance : IsHeldIn dump (all_revisions (trees_in_bytes dump)) one → AreCounted (length dump.counts) counted
          → (other : Held) → IsHeldBy dump peg (all_revisions (trees_in_bytes dump)) other → (distance : Distance)
          → distance.beyond ≡ count_new counted.counts.items one.holdings.how.items other.holdings.how.items
          → distance.behind ≡ count_new counted.counts.items other.holdings.how.items one.holdings.how.items
          → target_answer_in dump one counted field ≡ ok_answer (kept_distance_line distance ∷ [])
      target-distance one_is counted_are other other_is distance beyond behind =
          let trees = trees_in_bytes dump in
          let range = all_revisions trees in
          let held_one = holding_in dump one.at one.value in
          let held_other = holding_in dump other.at other.value in
          let one_texts = texts_of dump.names one.below.items in
          let other_texts = texts_of dump.names other.below.items in
          let counts : counted.counts.items ≡ map (λ rev. not (is_in counted.uncounted rev)) (range_with_len 0 (count_in dump range)) =
          counted_are ∙ ap (λ n. map (λ rev. not (is_in counted.uncounted rev)) (range_with_len 0 n)) (sym (count_in-all dump one_is.kept)) in
          let last : length trees - 1 + 1 ≡ count_in dump range = last_of dump one_is.kept ∙ sym (count_in-all dump one_is.kept) in
          let ahead = beyond
          ∙ count_new-held (count_in dump range) held_one held_other one_texts other_texts counted.uncounted counted.counts.items
          one.holdings.how.items other.holdings.how.items counts one_is.are.how other_is.is.are.how (length trees - 1) last in
          let back = behind
          ∙ count_new-held (count_in dump range) held_other held_one other_texts one_texts counted.uncounted counted.counts.items
          other.holdings.how.items one.holdings.how.items counts other_is.is.are.how one_is.are.how (length trees - 1) last in
          target-peg ∙ other_is.answered by_other ∙ (λ i. ok_answer ((decimal (sym ahead i) ++ codes " " ++ decimal (sym back i)) ∷ []))

-- ---- all targets

module _ (dump : DumpValue) (from : PegValue) (bytes : List ℕ) (to : List (List ℕ)) where
  abbrev answer_to : Answer
  answer_to = distance_answer (history_in_bytes dump) (trees_in_bytes dump) (peg_view from) bytes to

  abbrev pub lines_by : List Run → Holder → List (List ℕ)
  lines_by uncounted one = map (λ field. outcome_line (target_answer (history_in_bytes dump) (trees_in_bytes dump) one uncounted (peg_of field))) to

  abbrev by_one : List Run → Holder → Answer
  by_one uncounted one = ok_answer (lines_by uncounted one)

  abbrev by_runs : List Run → Answer
  by_runs uncounted = with_holder (trees_in_bytes dump) (peg_view from) (by_one uncounted)

  pub IsUntold-rangelist : (error : Unanswered) → IsRangelistRefused bytes error → IsUntold answer_to error
  IsUntold-rangelist error refused = refused by_runs

  module _ (ranges : List Run) (are : AreOfRangelist bytes ranges) where
    answer-runs : answer_to ≡ by_runs are.runs
    answer-runs = with_rangelist-runs bytes ranges are by_runs

    pub IsUntold-from : (error : Unanswered) → IsHolderRefused dump from error → IsUntold answer_to error
    IsUntold-from error refused = subst (λ answer. IsUntold answer error) (sym answer-runs) (refused (by_one are.runs))

    -- the ranges are as good as the runs of the rangelist
    abbrev new_without : (ℕ → Bool) → Holder → Holder → ℕ
    new_without out one other =
        length (those_held
        (λ rev. if out rev then None
        else more_held (holding_by_holder (history_in_bytes dump) (trees_in_bytes dump) one rev) (holding_by_holder (history_in_bytes dump) (trees_in_bytes dump) other rev))
        (all_revisions (trees_in_bytes dump)))

    abbrev line_without : (ℕ → Bool) → Holder → Holder → List ℕ
    line_without out one other = decimal (new_without out one other) ++ codes " " ++ decimal (new_without out other one)

    same_target : (one : Holder) (peg : Option Peg)
        → target_answer (history_in_bytes dump) (trees_in_bytes dump) one are.runs peg ≡ target_answer (history_in_bytes dump) (trees_in_bytes dump) one ranges peg
    same_target one None = refl
    same_target one (Some peg) =
        λ i. with_holder (trees_in_bytes dump) peg (λ other. ok_answer (line_without (λ rev. are.same rev i) one other ∷ []))

    pub distance_answer-lines : (range : ℕ × ℕ) (one : Held) → IsHeldBy dump from range one → answer_to ≡ ok_answer (lines_by ranges (holder_in_bytes dump one))
    distance_answer-lines range one one_is =
        answer-runs
        ∙ one_is.answered (by_one are.runs)
        ∙ (λ i. ok_answer (map (λ field. outcome_line (same_target (holder_in_bytes dump one) (peg_of field) i)) to))

-- the lines, one after another
pub targets_text-lines : (dump : DumpValue) (from : PegValue) (bytes : List ℕ) (to : List (List ℕ)) (one : Held) (counted : Counted)
    → targets_text dump one counted to ≡ lines_text (lines_by dump from bytes to counted.uncounted (holder_in_bytes dump one))
targets_text-lines dump from bytes to one counted = sym (flat_map-map line_text (λ field. outcome_line (target_answer_in dump one counted field)) to)
