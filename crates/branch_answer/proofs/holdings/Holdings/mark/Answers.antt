use Rattle.std.proofs.Common.{refl}
use Rattle.branch_answer.proofs.Marks.{AreMarked-all, AreMarked-next, AreMarked-start}
use Rattle.branch_answer.proofs.holdings.Holdings.mark.Goals as goal

pub loop-rev-init : goal.loop-rev-init
loop-rev-init c = AreMarked-start c.args.self.now c.args.revs.now (λ _. c.args.how)

pub loop-rev-preserved : goal.loop-rev-preserved
loop-rev-preserved c =
    AreMarked-next c.args.self.now c.args.revs.now (λ _. c.args.how) c.loop-rev.self c.mark_one.new.self c.loop-rev.rev-index 0 c.args.how
    c.loop-rev-test.true refl c.loop-rev.invariant c.mark_one.ensures

pub returns : goal.returns
returns c = AreMarked-all c.args.self.now c.args.revs.now (λ _. c.args.how) c.loop-rev.self c.loop-rev.rev-index c.loop-rev-test.false c.loop-rev.invariant
