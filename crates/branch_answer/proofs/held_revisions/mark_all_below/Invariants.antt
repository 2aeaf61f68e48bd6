use Rattle.std.proofs.Common.{map, take}
use Rattle.query_answer.specs.Worker.{IsSeenOf}
use Rattle.branch_answer.specs.HeldRevisions.{below_mark}
use Rattle.branch_answer.specs.KeptExplicit.{explicit_text}
use Rattle.branch_answer.specs.KeptHoldings.{AreMarked}
use Rattle.branch_answer.specs.KeptOperatives.{AreOperativesFor}
use Rattle.branch_answer.proofs.held_revisions.mark_all_below.Given as goal

abbrev pub invariant-loop-index : goal.invariant-loop-index
invariant-loop-index l = record {
  seen : IsSeenOf l.repo.values l.memo l.seen;
  operatives : AreOperativesFor l.repo l.initial.holdings l.operatives;
  marked : AreMarked l.initial.holdings l.holdings (below_mark l.repo 0 (map (explicit_text l.repo l.rev) (take l.index l.below)));
}
