use Rattle.std.proofs.Common.{◌≡◌, map, take}
use Rattle.path_index.specs.Copies.{copy_view}
use Rattle.branch_answer.proofs.descendants.places_of.Given as goal
use Rattle.branch_answer.specs.KeptDescendants.{places_from}

abbrev pub invariant-loop-copied : goal.invariant-loop-copied
invariant-loop-copied l = l.places.keys ≡ places_from l.fn.at.path l.fn.at.rev (map copy_view (take l.copied-index l.copies))
