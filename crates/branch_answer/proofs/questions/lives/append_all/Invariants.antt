use Rattle.std.proofs.Common.{◌≡◌, ◌++◌, flat_map, take}
use Rattle.branch_answer.specs.KeptLife.{life_text}
use Rattle.branch_answer.proofs.questions.lives.append_all.Given as goal

abbrev pub invariant-loop-life : goal.invariant-loop-life
invariant-loop-life l = l.out.items ≡ l.fn.out.items ++ flat_map (life_text l.fn.names) (take l.life-index l.fn.lives)
