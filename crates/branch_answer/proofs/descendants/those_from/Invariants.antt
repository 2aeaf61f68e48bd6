use Rattle.std.proofs.Common.{◌≡◌, ◌++◌, All, filter}
use Rattle.svn_path.specs.Path.{IsPathOf}
use Rattle.branch_answer.proofs.descendants.those_from.Given as goal
use Rattle.branch_answer.specs.KeptDescendants.{is_descendant}

abbrev pub invariant-loop-path : goal.invariant-loop-path
invariant-loop-path l = record {
  told : l.found.items ++ filter (is_descendant l.fn.repo l.fn.at l.fn.rev) l.path-iterator ≡ filter (is_descendant l.fn.repo l.fn.at l.fn.rev) l.fn.places.keys;
  of_names : All (IsPathOf l.fn.repo.names) l.path-iterator;
}
