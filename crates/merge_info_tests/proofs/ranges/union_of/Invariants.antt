use Rattle.std.proofs.Common.{All}
use Rattle.range_list.specs.Rangelist.{IsRun}
use Rattle.merge_info_tests.proofs.ranges.union_of.Given as goal

abbrev pub invariant-loop-each : goal.invariant-loop-each
invariant-loop-each l = All IsRun l.runs.items
