use Rattle.merge_info.proofs.Common.{drop, length, slice_split, IsRun, element_of, elements_of, is_comma}
use Rattle.merge_info.proofs.Collected.{AreCollected}
use Rattle.merge_info.proofs.rangelist.read_rangelist.Given as goal

abbrev pub invariant-loop-part : goal.invariant-loop-part
invariant-loop-part l =
    AreCollected element_of IsRun (elements_of l.bytes) l.runs.items (drop (length l.yielded) (slice_split is_comma l.bytes))
