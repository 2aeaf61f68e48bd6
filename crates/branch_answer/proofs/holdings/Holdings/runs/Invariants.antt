use Rattle.std.proofs.Common.{◌≡◌, [], All, map, take}
use Rattle.range_list.specs.Rangelist.{IsRun}
use Rattle.branch_answer.specs.KeptHolding.{holding_view}
use Rattle.branch_answer.specs.KeptNew.{held_runs_from}
use Rattle.branch_answer.proofs.holdings.Holdings.runs.Given as goal

abbrev pub invariant-loop-index : goal.invariant-loop-index
invariant-loop-index l = record {
  runs : All IsRun l.runs.items;
  held : l.runs.items ≡ held_runs_from l.self.first (map (holding_view []) (take l.index l.self.how.items));
}
