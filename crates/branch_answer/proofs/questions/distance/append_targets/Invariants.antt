use Rattle.std.proofs.Common.{◌≡◌, ◌++◌, length, take}
use Rattle.std.specs.List.{slice_split}
use Rattle.query_answer.specs.Query.{is_tab}
use Rattle.query_answer.specs.Worker.{IsSeenOf}
use Rattle.query_answer.specs.Repo.{trees_in_bytes}
use Rattle.branch_answer.specs.KeptNew.{targets_text}
use Rattle.branch_answer.specs.KeptOperatives.{AreOperativesIn}
use Rattle.branch_answer.specs.NewRevisions.{all_revisions}
use Rattle.branch_answer.proofs.questions.distance.append_targets.Given as goal

abbrev pub invariant-loop-field : goal.invariant-loop-field
invariant-loop-field l = record {
  seen : IsSeenOf l.repo.values l.memo l.seen;
  operatives : AreOperativesIn l.fn.repo (all_revisions (trees_in_bytes l.fn.repo)) l.operatives;
  lines : l.out.items ≡ l.fn.out.items ++ targets_text l.fn.repo l.fn.one l.fn.counted (take (length l.yielded) (slice_split is_tab l.to));
}
