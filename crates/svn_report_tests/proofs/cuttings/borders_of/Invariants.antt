use Rattle.std.proofs.Common.{◌≤◌}
use Rattle.svn_report.specs.Blocks.{AreBorders}
use Rattle.svn_report_tests.proofs.cuttings.borders_of.Given as goal

abbrev pub invariant-loop-count : goal.invariant-loop-count
invariant-loop-count l = record { rise : AreBorders 0 l.end l.borders.items; few : l.end ≤ 1000 }
