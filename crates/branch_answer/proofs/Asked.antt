-- The answer by what is asked.
use Rattle.std.proofs.Common.{◌≡◌, List, refl, ℕ}
use Rattle.svn_dump.specs.Record.{HistoryOfBytes}
use Rattle.query_answer.specs.Answer.{TreesOfBytes, refused_answer}
use Rattle.query_answer.specs.Peg.{Peg}
use Rattle.query_answer.specs.declared.status.Status.TheVariants as status
use Rattle.branch_answer.specs.Holding.{held_lines}
use Rattle.branch_answer.specs.NewRevisions.{rangelist_lines}
use Rattle.branch_answer.specs.Question as question
use Rattle.branch_answer.specs.Question.{Comparison}
use Rattle.branch_answer.specs.QuestionAnswer.{ancestor_answer, comparison_answer, descendants_answer, distance_answer, entry_answer, explicit_answer, holds_answer, list_answer, lives_answer}
unfoldable use Rattle.branch_answer.specs.QuestionAnswer.{question_answer}

module _ (history : HistoryOfBytes) (trees : TreesOfBytes) where
  pub question_answer-bad : question_answer history trees question.bad ≡ refused_answer status.BadQuery
  unfolding question_answer
  question_answer-bad = refl

  pub question_answer-entry : (peg : Peg) → question_answer history trees (question.entry peg) ≡ entry_answer trees peg
  unfolding question_answer
  question_answer-entry peg = refl

  pub question_answer-list : (peg : Peg) → question_answer history trees (question.list peg) ≡ list_answer trees peg
  unfolding question_answer
  question_answer-list peg = refl

  pub question_answer-lives : (peg : Peg) → question_answer history trees (question.lives peg) ≡ lives_answer trees peg
  unfolding question_answer
  question_answer-lives peg = refl

  pub question_answer-explicit : (peg : Peg) → question_answer history trees (question.explicit peg) ≡ explicit_answer trees peg
  unfolding question_answer
  question_answer-explicit peg = refl

  pub question_answer-ancestor : (one other : Peg) → question_answer history trees (question.ancestor one other) ≡ ancestor_answer trees one other
  unfolding question_answer
  question_answer-ancestor one other = refl

  pub question_answer-holds : (peg : Peg) (range : ℕ × ℕ) → question_answer history trees (question.holds peg range) ≡ holds_answer history trees peg range
  unfolding question_answer
  question_answer-holds peg range = refl

  pub question_answer-new : (comparison : Comparison) → question_answer history trees (question.new comparison) ≡ comparison_answer history trees held_lines comparison
  unfolding question_answer
  question_answer-new comparison = refl

  pub question_answer-new_ranges : (comparison : Comparison) → question_answer history trees (question.new_ranges comparison) ≡ comparison_answer history trees rangelist_lines comparison
  unfolding question_answer
  question_answer-new_ranges comparison = refl

  pub question_answer-distance : (from : Peg) (uncounted : List ℕ) (to : List (List ℕ)) → question_answer history trees (question.distance from uncounted to) ≡ distance_answer history trees from uncounted to
  unfolding question_answer
  question_answer-distance from uncounted to = refl

  pub question_answer-descendants : (peg : Peg) (rev : ℕ) → question_answer history trees (question.descendants peg rev) ≡ descendants_answer trees peg rev
  unfolding question_answer
  question_answer-descendants peg rev = refl
