use Rattle.std.proofs.Common.{take}
use Rattle.branch_answer.specs.ExplicitFound.{AreOpenBelow}
use Rattle.branch_answer.proofs.explicit.open_below.Given as goal

abbrev pub invariant-loop-path : goal.invariant-loop-path
invariant-loop-path l = AreOpenBelow l.repo l.rev (take l.path-index l.level) l.next.items
