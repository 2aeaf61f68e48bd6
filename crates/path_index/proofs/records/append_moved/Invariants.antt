use Rattle.path_index.proofs.Common.{◌≡◌, ◌+◌, ◌^◌, ◌<◌, ◌++◌, All, map, moved_by}
use Rattle.std.specs.Vec.Iter.{into_iter_items}
use Rattle.path_index.proofs.records.append_moved.Given as goal

abbrev pub invariant-loop-each : goal.invariant-loop-each
invariant-loop-each l = goal.iterator-loop-each.can_next l.each-iterator
    × goal.iterator-loop-each.is_finite l.each-iterator
    × All (λ each. each.index + l.shift < 2 ^ 32) (into_iter_items l.each-iterator)
    × (l.copies.items ++ map (moved_by l.shift) (into_iter_items l.each-iterator) ≡ l.fn.copies.items ++ map (moved_by l.shift) l.fn.more.items)
