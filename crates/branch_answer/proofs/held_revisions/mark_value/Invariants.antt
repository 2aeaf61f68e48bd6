use Rattle.std.proofs.Common.{map, take}
use Rattle.merge_info.specs.Value.{entry_view}
use Rattle.branch_answer.specs.HeldRevisions.{value_mark}
use Rattle.branch_answer.specs.KeptHoldings.{AreMarked}
use Rattle.branch_answer.specs.KeptOperatives.{AreOperativesFor}
use Rattle.branch_answer.proofs.held_revisions.mark_value.Given as goal

abbrev pub invariant-loop-entry : goal.invariant-loop-entry
invariant-loop-entry l = record {
  operatives : AreOperativesFor l.repo l.initial.holdings l.operatives;
  marked : AreMarked l.initial.holdings l.holdings (value_mark l.repo l.whole l.part (map entry_view (take l.entry-index l.entry-items)));
}
