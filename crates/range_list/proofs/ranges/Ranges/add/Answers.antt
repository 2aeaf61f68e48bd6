use Rattle.std.proofs.Common.{arith}
use Rattle.std.proofs.lemmas.List.Elements.{All-push}
use Rattle.range_list.specs.Rangelist.{IsRun}
use Rattle.range_list.proofs.Canonical.{AreRuns-from_canonical}
use Rattle.range_list.proofs.ranges.Ranges.add.Goals as goal

pub of_runs-requires : goal.of_runs-requires
of_runs-requires c =
    rw (c.in_ok-push.ensures.items, c.in_ok-extend_from_slice.ensures.items, c.in_ok-runs.ensures.items, c.deref.ensures.value)
    (All-push IsRun _ _ (AreRuns-from_canonical _ c.self.invariant) (record { first = omega arith; ordered = omega arith; last = omega arith }))
