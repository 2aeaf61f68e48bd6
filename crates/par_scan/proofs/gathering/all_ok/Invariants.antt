use Rattle.std.proofs.Common.{◌≡◌, ◌++◌, map, Ok}
use Rattle.std.specs.Vec.Iter.{into_iter_items}
use Rattle.par_scan.proofs.gathering.all_ok.Given as goal

abbrev pub invariant-loop-each : goal.invariant-loop-each
invariant-loop-each g l = (goal.iterator-loop-each g).can_next l.each-iterator
    × (goal.iterator-loop-each g).is_finite l.each-iterator
    × (map Ok l.values.items ++ into_iter_items l.each-iterator ≡ l.fn.results.items)
