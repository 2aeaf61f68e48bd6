use Rattle.std.proofs.Common.{◌≡◌, ◌++◌}
use Rattle.path_index.specs.Copies.{copy_view}
use Rattle.branch_answer.proofs.PlacesInOrder.{AreFrom}
use Rattle.branch_answer.proofs.descendants.places_by.Given as goal
use Rattle.branch_answer.specs.KeptDescendants.{places_by_copy}

abbrev pub invariant-loop-place : goal.invariant-loop-place
invariant-loop-place l = record {
  told : l.taken.items ++ places_by_copy (copy_view l.fn.copied) l.place-iterator ≡ places_by_copy (copy_view l.fn.copied) l.fn.places.keys;
  left : AreFrom (copy_view l.fn.copied) l.place-iterator;
}
