use Rattle.std.proofs.Common.{◌∙◌, ap}
use Rattle.range_list.specs.Rangelist.{inheritability_of}
use Rattle.branch_answer.specs.KeptHolding.{holding_by}
use Rattle.branch_answer.proofs.Marks.{AreMarked-all, AreMarked-next, AreMarked-start}
use Rattle.branch_answer.proofs.holdings.Holdings.mark_merged.Goals as goal

pub loop-rev-init : goal.loop-rev-init
loop-rev-init c = AreMarked-start c.args.self.now c.args.revs.now (λ rev. holding_by c.args.whole c.args.part (inheritability_of c.args.ranges.now rev))

pub loop-rev-preserved : goal.loop-rev-preserved
loop-rev-preserved c =
    AreMarked-next c.args.self.now c.args.revs.now (λ rev. holding_by c.args.whole c.args.part (inheritability_of c.args.ranges.now rev)) c.loop-rev.self c.mark_one.new.self c.loop-rev.rev-index 0
    c.by_mergeinfo.result c.loop-rev-test.true (c.by_mergeinfo.ensures ∙ ap (holding_by c.args.whole c.args.part) c.has.ensures) c.loop-rev.invariant c.mark_one.ensures

pub returns : goal.returns
returns c =
    AreMarked-all c.args.self.now c.args.revs.now (λ rev. holding_by c.args.whole c.args.part (inheritability_of c.args.ranges.now rev))
    c.loop-rev.self c.loop-rev.rev-index c.loop-rev-test.false c.loop-rev.invariant
