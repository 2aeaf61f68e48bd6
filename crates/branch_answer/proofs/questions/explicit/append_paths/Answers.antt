use Rattle.std.proofs.Common.{subst, sym}
use Rattle.branch_answer.specs.KeptExplicit.{HasOwnText}
use Rattle.branch_answer.proofs.questions.explicit.append_paths.Goals as goal

pub append_path-requires-clause-own : goal.append_path-requires-clause-own
append_path-requires-clause-own c =
    subst (HasOwnText c.args.repo.now c.args.rev) (sym c.path-item.is)
    (c.requires.own c.loop-path.path-index c.path-item.result c.loop-path-test.true)
