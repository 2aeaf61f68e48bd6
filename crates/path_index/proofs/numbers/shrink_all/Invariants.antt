use Rattle.path_index.proofs.Common.{HaveSameNumbers}
use Rattle.path_index.proofs.numbers.shrink_all.Given as goal

abbrev pub invariant-loop-list : goal.invariant-loop-list
invariant-loop-list l = HaveSameNumbers l.fn.lists.items l.list-items
