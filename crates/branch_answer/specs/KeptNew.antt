-- What one path holds beyond another one, as it is kept.
use Rattle.std.specs.Prelude.{◌≡◌, ℕ, ◌+◌, ◌^◌, ◌<◌, ◌≤◌, min, nat_lt, Bool, false, not, ◌&&◌, All, List, [], ◌∷◌, ◌++◌, Option, Some, None, codes, count_by, decimal, flat_map, length, map, slice_index_or, if◌then◌else◌}
use Rattle.std.specs.List.{range_with_len}
use Rattle.svn_path.specs.Path.{IsPathOf}
use Rattle.svn_text.specs.Line.{line_text}
use Rattle.range_list.specs.Canonical.{canonical_runs}
use Rattle.range_list.specs.Rangelist.{is_in}
use Rattle.range_list.specs.Text.{rangelist_text}
use Rattle.range_list.specs.declared.run.Run.{Run}
use Rattle.merge_info.specs.Line.{elements_of}
use Rattle.svn_dump.specs.Dump.{DumpValue, IsDump, history_in_bytes}
use Rattle.query_answer.specs.Answer.{Answer, ok_answer}
use Rattle.query_answer.specs.Peg.{PegValue, peg_of, peg_view}
use Rattle.query_answer.specs.Repo.{peg_in_bytes, trees_in_bytes}
use Rattle.query_answer.specs.declared.unanswered.Unanswered.{Unanswered}
use Rattle.branch_answer.specs.HeldRevisions.{AreHeldBy, count_in}
use Rattle.branch_answer.specs.Holding.{Holding, those_held}
use Rattle.branch_answer.specs.KeptHolding.{holding_view, strength}
use Rattle.branch_answer.specs.KeptHoldings.{texts_of}
use Rattle.branch_answer.specs.NewRevisions.{Holder, run_of_held}
use Rattle.branch_answer.specs.Question.{Comparison}
use Rattle.branch_answer.specs.QuestionAnswer.{comparison_answer, outcome_line, target_answer, with_holder, with_rangelist}
use Rattle.branch_answer.specs.Told.{IsUntold}
use Rattle.branch_answer.specs.declared.counted.Counted.{Counted}
use Rattle.branch_answer.specs.declared.counted.Distance.{Distance}
use Rattle.branch_answer.specs.declared.holding.Holding.{Holding as KeptHolding}
use Rattle.branch_answer.specs.declared.holding.Holding.TheVariants.{Not}
use Rattle.branch_answer.specs.declared.holdings.Holdings.{Holdings}
use Rattle.branch_answer.specs.declared.new_revisions.Held.{Held}

-- ---- one revision

-- how much of it is held
abbrev pub kept_extent : KeptHolding → ℕ
kept_extent how = min (strength how) 3

-- more of it is held in the second way than in the first one
abbrev pub is_more : KeptHolding → KeptHolding → Bool
is_more one other = nat_lt (kept_extent one) (kept_extent other)

-- the second way, if more of it is held so than in the first one, unless the revision doesn't count
abbrev pub new_cell : Bool → KeptHolding → KeptHolding → KeptHolding
new_cell uncounted one other = if uncounted then Not else (if is_more one other then other else Not)

-- ---- neighbouring revisions

-- all of them are numbers of revisions
abbrev pub AreNumbers : Holdings → Type 0
AreNumbers holdings = (k : ℕ) → k < length holdings.how.items → holdings.first + k < 2 ^ 32

-- the same revisions, of which those are still held that are new
pub record AreNewOnly (one : Holdings) (uncounted : List Run) (old new : Holdings) : Type 0 where
  pub first : new.first ≡ old.first
  pub count : length new.how.items ≡ length old.how.items
  pub how : (k : ℕ) → k < length old.how.items
      → slice_index_or new.how.items k Not
      ≡ new_cell (is_in uncounted (old.first + k)) (slice_index_or one.how.items k Not) (slice_index_or old.how.items k Not)

-- whether the revision of an index counts, and more of it is held in the second way than in the first one
abbrev pub is_new_at : List Bool → List KeptHolding → List KeptHolding → ℕ → Bool
is_new_at counts ones others k =
    slice_index_or counts k false && is_more (slice_index_or ones k Not) (slice_index_or others k Not)

-- how many of the revisions are so
abbrev pub count_new : List Bool → List KeptHolding → List KeptHolding → ℕ
count_new counts ones others = count_by (λ each. each) (map (is_new_at counts ones others) (range_with_len 0 (length counts)))

-- ---- runs

-- the run of a revision, if it is held
abbrev pub held_run : ℕ → Option Holding → List Run
held_run rev None = []
held_run rev (Some how) = run_of_held (rev, how) ∷ []

-- the runs of the revisions from one on, the oldest first
unfoldable pub held_runs_from : ℕ → List (Option Holding) → List Run
held_runs_from rev [] = []
held_runs_from rev (how ∷ others) = held_run rev how ++ held_runs_from (rev + 1) others

-- the line of their rangelist, unless there are none
abbrev pub runs_text : List Run → List ℕ
runs_text [] = []
runs_text (run ∷ runs) = line_text (rangelist_text (canonical_runs (run ∷ runs)))

-- ---- what the path of a peg holds

abbrev pub holder_in_bytes : DumpValue → Held → Holder
holder_in_bytes dump held = record { peg = peg_in_bytes dump held.at; value = held.value }

-- how the path holds the revisions of a range that the dump has
pub record IsHeldIn (dump : DumpValue) (range : ℕ × ℕ) (held : Held) : Type 0 where
  pub kept : IsDump dump
  pub of_names : All (IsPathOf dump.names) held.below.items
  pub are : AreHeldBy dump held.at held.value range held.below.items held.holdings

-- the path is that of a peg, so each answer by what the peg holds has its result lines
pub record IsHeldBy (dump : DumpValue) (peg : PegValue) (range : ℕ × ℕ) (held : Held) : Type 0 where
  pub is : IsHeldIn dump range held
  pub answered : (answer : Holder → Answer) → with_holder (trees_in_bytes dump) (peg_view peg) answer ≡ answer (holder_in_bytes dump held)

-- no answer by what the peg holds has result lines
abbrev pub IsHolderRefused : DumpValue → PegValue → Unanswered → Type 0
IsHolderRefused dump peg error = (answer : Holder → Answer) → IsUntold (with_holder (trees_in_bytes dump) (peg_view peg) answer) error

-- ---- the revisions that don't count

-- the ranges have the numbers of a rangelist
pub record AreOfRangelist (bytes : List ℕ) (ranges : List Run) : Type 0 where
  pub runs : List Run
  pub are : elements_of bytes ≡ Some runs
  pub same : (rev : ℕ) → is_in runs rev ≡ is_in ranges rev

-- no answer by the rangelist has result lines
abbrev pub IsRangelistRefused : List ℕ → Unanswered → Type 0
IsRangelistRefused bytes error = (answer : List Run → Answer) → IsUntold (with_rangelist bytes answer) error

-- whether each of so many revisions counts, which it does unless the ranges have it
abbrev pub counts_to : List Run → ℕ → List Bool
counts_to uncounted count = map (λ rev. not (is_in uncounted rev)) (range_with_len 0 count)

abbrev pub AreCounted : ℕ → Counted → Type 0
AreCounted count counted = counted.counts.items ≡ counts_to counted.uncounted count

-- ---- what is new

-- what is held is what the answer to the comparison lists
pub record AreNewOf (dump : DumpValue) (comparison : Comparison) (held : Held) : Type 0 where
  pub how : ℕ → Option Holding
  pub range : ℕ × ℕ
  pub kept : IsDump dump
  pub of_names : All (IsPathOf dump.names) held.below.items
  pub none_past : (rev : ℕ) → length dump.counts ≤ rev → how rev ≡ None
  pub first : held.holdings.first ≡ range.0
  pub are : map (holding_view (texts_of dump.names held.below.items)) held.holdings.how.items ≡ map how (range_with_len range.0 (count_in dump range))
  pub answered : (lines : List (ℕ × Holding) → List (List ℕ))
      → comparison_answer (history_in_bytes dump) (trees_in_bytes dump) lines comparison ≡ ok_answer (lines (those_held how range))

-- no answer to the comparison has result lines
abbrev pub IsComparisonRefused : DumpValue → Comparison → Unanswered → Type 0
IsComparisonRefused dump comparison error =
    (lines : List (ℕ × Holding) → List (List ℕ)) → IsUntold (comparison_answer (history_in_bytes dump) (trees_in_bytes dump) lines comparison) error

-- what is answered of a target
abbrev pub target_answer_in : DumpValue → Held → Counted → List ℕ → Answer
target_answer_in dump one counted field =
    target_answer (history_in_bytes dump) (trees_in_bytes dump) (holder_in_bytes dump one) counted.uncounted (peg_of field)

-- the result line of a distance
abbrev pub kept_distance_line : Distance → List ℕ
kept_distance_line distance = decimal distance.beyond ++ codes " " ++ decimal distance.behind

-- the text of the line of a target, and of those of several
abbrev pub target_text : DumpValue → Held → Counted → List ℕ → List ℕ
target_text dump one counted field = line_text (outcome_line (target_answer_in dump one counted field))

abbrev pub targets_text : DumpValue → Held → Counted → List (List ℕ) → List ℕ
targets_text dump one counted fields = flat_map (target_text dump one counted) fields
