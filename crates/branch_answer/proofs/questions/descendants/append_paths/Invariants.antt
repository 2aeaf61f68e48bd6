use Rattle.std.proofs.Common.{◌≡◌, ◌++◌, take}
use Rattle.branch_answer.proofs.questions.descendants.append_paths.Given as goal
use Rattle.branch_answer.specs.KeptDescendants.{path_texts}
use Rattle.branch_answer.specs.QuestionAnswer.{lines_text}

abbrev pub invariant-loop-path : goal.invariant-loop-path
invariant-loop-path l = l.out.items ≡ l.fn.out.items ++ lines_text (path_texts l.fn.names (take l.path-index l.fn.paths))
