use Rattle.std.proofs.Common.{◌≡◌, IfSome, take}
use Rattle.svn_path.specs.Path.{IsPathOf}
use Rattle.branch_answer.proofs.moves.first_path_from.Given as goal
use Rattle.branch_answer.specs.Moves.{first_by}

abbrev pub invariant-loop-each : goal.invariant-loop-each
invariant-loop-each l = (l.first ≡ first_by l.repo l.path l.rev (take l.each-index l.records)) × IfSome l.first (IsPathOf l.repo.names)
