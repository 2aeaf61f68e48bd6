-- What is told by what pegs hold, and by rangelists.
use Rattle.std.proofs.Common.{◌≡◌, ◌∙◌, ℕ, None, Some, List, ap, sym}
use Rattle.merge_info.specs.Line.{elements_of}
use Rattle.merge_info.specs.Value.{MergeInfoValue}
use Rattle.range_list.specs.declared.run.Run.{Run}
use Rattle.svn_dump.specs.Dump.{DumpValue}
use Rattle.query_answer.specs.Answer.{Answer, refused_answer, with_effective_mergeinfo, with_value}
use Rattle.query_answer.specs.Peg.{Peg, PegValue, peg_view}
use Rattle.query_answer.specs.Repo.{IsPegFound, IsPegRefused, effective_in, peg_in_bytes, trees_in_bytes}
use Rattle.query_answer.specs.declared.status.Status.TheVariants as status
use Rattle.query_answer.specs.declared.target.PathRev.{PathRev}
use Rattle.query_answer.specs.declared.unanswered.Unanswered.{Unanswered}
use Rattle.query_answer.specs.declared.unanswered.Unanswered.TheVariants.{Memory, Refused}
use Rattle.branch_answer.specs.HeldRevisions.{IsValueRefused}
use Rattle.branch_answer.specs.KeptNew.{AreOfRangelist, IsHolderRefused, IsRangelistRefused}
use Rattle.branch_answer.specs.NewRevisions.{Holder}
use Rattle.branch_answer.specs.QuestionAnswer.{with_holder, with_rangelist, with_runs}
use Rattle.branch_answer.proofs.Refusals.{IsUntold-refused}

-- ---- pegs

module _ (dump : DumpValue) where
  abbrev holder_at : Peg → MergeInfoValue → Holder
  holder_at peg value = record { peg = peg; value = value }

  -- the answer about a peg that is there
  abbrev by_holder : (Holder → Answer) → Peg → Answer
  by_holder answer peg = with_effective_mergeinfo (trees_in_bytes dump) peg (λ value. answer (holder_at peg value))

  module _ (peg : PegValue) where
    pub IsHolderRefused-peg : (error : Unanswered) → IsPegRefused dump peg error → IsHolderRefused dump peg error
    IsHolderRefused-peg error refused answer = IsUntold-refused dump peg error (by_holder answer) refused

    module _ (at : PathRev) (found : IsPegFound dump peg at) where
      pub with_holder-value : (value : MergeInfoValue) → effective_in dump at.path at.rev ≡ Some value
          → (answer : Holder → Answer) → with_holder (trees_in_bytes dump) (peg_view peg) answer ≡ answer (holder_at (peg_in_bytes dump at) value)
      with_holder-value value is answer =
          found.answered (by_holder answer) ∙ ap (λ each. with_value each (λ one. answer (holder_at (peg_in_bytes dump at) one))) is

      -- where the mergeinfo is malformed
      pub IsHolderRefused-value : (error : Unanswered) → IsValueRefused dump at error → IsHolderRefused dump peg error
      IsHolderRefused-value (Refused status) refused answer =
          found.answered (by_holder answer)
          ∙ ap (λ each. with_value each (λ one. answer (holder_at (peg_in_bytes dump at) one))) refused.1
          ∙ ap refused_answer (sym refused.0)
      IsHolderRefused-value Memory refused answer = tt

-- ---- rangelists

pub IsRangelistRefused-malformed : (bytes : List ℕ) → elements_of bytes ≡ None → IsRangelistRefused bytes (Refused status.BadQuery)
IsRangelistRefused-malformed bytes none answer = ap (λ each. with_runs each answer) none

pub with_rangelist-runs : (bytes : List ℕ) (ranges : List Run) → (are : AreOfRangelist bytes ranges) → (answer : List Run → Answer) → with_rangelist bytes answer ≡ answer are.runs
with_rangelist-runs bytes ranges are answer = ap (λ each. with_runs each answer) are.are
