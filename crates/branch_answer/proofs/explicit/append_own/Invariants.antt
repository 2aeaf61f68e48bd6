use Rattle.std.proofs.Common.{◌≡◌, ◌++◌, filter, take}
use Rattle.branch_answer.specs.ExplicitFound.{has_own_text}
use Rattle.branch_answer.proofs.explicit.append_own.Given as goal

abbrev pub invariant-loop-path : goal.invariant-loop-path
invariant-loop-path l = l.found.items ≡ l.initial.found.items ++ filter (has_own_text l.repo l.rev) (take l.path-index l.level)
