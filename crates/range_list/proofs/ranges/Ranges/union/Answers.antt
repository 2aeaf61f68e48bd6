use Rattle.std.proofs.lemmas.List.Elements.{All-append}
use Rattle.range_list.specs.Rangelist.{IsRun}
use Rattle.range_list.proofs.Canonical.{AreRuns-from_canonical}
use Rattle.range_list.proofs.ranges.Ranges.union.Goals as goal

pub of_runs-requires : goal.of_runs-requires
of_runs-requires c =
    rw (c.in_ok-extend_from_slice-2.ensures.items, c.in_ok-extend_from_slice.ensures.items, c.in_ok-runs.ensures.items, c.deref.ensures.value, c.deref-2.ensures.value)
    (All-append IsRun _ _ (AreRuns-from_canonical _ c.self.invariant) (AreRuns-from_canonical _ c.other.invariant))
