use Rattle.std.proofs.Common.{arith, drop, subst}
use Rattle.std.proofs.lemmas.List.{drop_all}
use Rattle.branch_answer.proofs.AncestorTold.{AreLeft-after, AreLeft-after_other, AreLeft-all, AreLeftOf, ancestor_of-end, ancestor_of-end_other, ancestor_of-found}
use Rattle.branch_answer.proofs.questions.ancestor.newest_shared.Goals.{then-loop-i-test+else-j-other, else-loop-i-test}
use Rattle.branch_answer.proofs.questions.ancestor.newest_shared.Goals as goal

pub loop-i-init : goal.loop-i-init
loop-i-init c dump at other_at are = AreLeft-all dump at other_at c.args.one.now c.args.other.now are

pub returns-in-Some-clause-exact : goal.returns-in-Some-clause-exact
returns-in-Some-clause-exact c dump at other_at are =
    ancestor_of-found dump at other_at are.kept c.args.one.now c.args.other.now c.loop-i.i c.loop-i.j c.index-one-i.result c.index-other-j.result
    (record { within = c.loop-i-test.true; is = c.index-one-i.is }) (record { within = c.if-j-other.true; is = c.index-other-j.is })
    (c.loop-i.invariant dump at other_at are) c.in-Some.place c.in-Some.ensures

pub loop-i-preserved-then-segment-other_segment : goal.loop-i-preserved-then-segment-other_segment
loop-i-preserved-then-segment-other_segment c dump at other_at are =
    AreLeft-after dump at other_at are.kept c.args.one.now c.args.other.now c.loop-i.i c.loop-i.j c.index-one-i.result c.index-other-j.result
    (record { within = c.loop-i-test.true; is = c.index-one-i.is }) (record { within = c.if-j-other.true; is = c.index-other-j.is })
    (c.loop-i.invariant dump at other_at are) c.in_default.ensures c.if-segment-other_segment.true

pub loop-i-preserved : goal.loop-i-preserved
loop-i-preserved c dump at other_at are =
    AreLeft-after_other dump at other_at are.kept c.args.one.now c.args.other.now c.loop-i.i c.loop-i.j c.index-one-i.result c.index-other-j.result
    (record { within = c.loop-i-test.true; is = c.index-one-i.is }) (record { within = c.if-j-other.true; is = c.index-other-j.is })
    (c.loop-i.invariant dump at other_at are) c.in_default.ensures (omega (arith, c.if-segment-other_segment.false))

pub returns-clause-exact : goal.returns-clause-exact
returns-clause-exact c dump at other_at are =
    let one = c.args.one.now in
    let other = c.args.other.now in
    let left : AreLeftOf dump at other_at (drop c.loop-i.i one) (drop c.loop-i.j other) = c.loop-i.invariant dump at other_at are in
    elim c.loop-i-test.branch [
      | then-loop-i-test+else-j-other w ↦
          ancestor_of-end_other dump at other_at (drop c.loop-i.i one)
          (subst (AreLeftOf dump at other_at (drop c.loop-i.i one)) (drop_all c.loop-i.j other w.if-j-other.false) left)
      | else-loop-i-test w ↦
          ancestor_of-end dump at other_at (drop c.loop-i.j other)
          (subst (λ segments. AreLeftOf dump at other_at segments (drop c.loop-i.j other)) (drop_all c.loop-i.i one w.loop-i-test.false) left)
    ]
