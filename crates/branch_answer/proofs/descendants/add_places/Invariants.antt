use Rattle.std.proofs.Common.{◌≡◌}
use Rattle.branch_answer.proofs.descendants.add_places.Given as goal
use Rattle.branch_answer.specs.KeptDescendants.{with_paths}

abbrev pub invariant-loop-place : goal.invariant-loop-place
invariant-loop-place l = l.places.keys ≡ with_paths l.fn.places.keys l.yielded
