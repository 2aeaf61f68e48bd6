use Rattle.std.proofs.Common.{subst}
use Rattle.branch_answer.specs.KeptOperatives.{AreFromTo}
use Rattle.branch_answer.proofs.OperativesKept.{IsPartOfList-from_to}
use Rattle.branch_answer.proofs.operatives.Operatives.on.Goals as goal

pub returns : goal.returns
returns c =
    IsPartOfList-from_to c.args.self.now c.args.path.now c.index.result.now c.args.lo c.args.hi c.from_to.result.now c.index.ensures
    c.requires.from c.requires.ordered c.requires.to
    (subst (λ all. AreFromTo all c.args.lo c.args.hi c.from_to.result.now) c.deref.ensures.value c.from_to.ensures)
