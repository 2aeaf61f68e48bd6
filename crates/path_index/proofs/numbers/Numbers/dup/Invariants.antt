use Rattle.path_index.proofs.Common.{◌≡◌, map, take}
use Rattle.path_index.proofs.ListsOfNodes.{items_in}
use Rattle.path_index.proofs.numbers.Numbers.dup.Given as goal

abbrev pub invariant-loop-list : goal.invariant-loop-list
invariant-loop-list l = map items_in l.lists.items ≡ map items_in (take l.list-index l.list-items)
