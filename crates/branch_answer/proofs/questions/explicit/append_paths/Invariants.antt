use Rattle.std.proofs.Common.{◌≡◌, ◌++◌, flat_map, take}
use Rattle.branch_answer.specs.KeptExplicit.{own_lines}
use Rattle.branch_answer.proofs.questions.explicit.append_paths.Given as goal

abbrev pub invariant-loop-path : goal.invariant-loop-path
invariant-loop-path l = l.out.items ≡ l.fn.out.items ++ flat_map (own_lines l.fn.repo l.fn.rev) (take l.path-index l.fn.paths)
