use Rattle.std.proofs.Common.{◌≡◌, ◌++◌}
use Rattle.std.specs.List.{flat_map}
use Rattle.std.specs.Vec.Iter.{into_iter_items}
use Rattle.par_scan.proofs.gathering.append_all.Given as goal

abbrev pub invariant-loop-part : goal.invariant-loop-part
invariant-loop-part g l = (goal.iterator-loop-part g).can_next l.part-iterator
    × (goal.iterator-loop-part g).is_finite l.part-iterator
    × (l.all.items ++ flat_map (λ part. part.items) (into_iter_items l.part-iterator) ≡ l.fn.first.items ++ flat_map (λ part. part.items) l.fn.parts.items)
