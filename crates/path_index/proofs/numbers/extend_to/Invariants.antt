use Rattle.path_index.proofs.Common.{◌+◌, ◌-◌, length, HaveSameNumbers}
use Rattle.path_index.proofs.numbers.extend_to.Given as goal

abbrev pub invariant-loop-alloc : goal.invariant-loop-alloc
invariant-loop-alloc l = HaveSameNumbers l.fn.lists.items l.lists.items

abbrev pub decreases-loop-alloc : goal.decreases-loop-alloc
decreases-loop-alloc l = l.node + 1 - length l.lists.items
