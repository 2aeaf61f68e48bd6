use Rattle.path_index.proofs.Common.{arith, nil_from_length}
use Rattle.path_index.proofs.NumbersOfNodes.{IsPushed-start, IsPushed_push, hits-IsPushed, le_from_last}
use Rattle.path_index.proofs.numbers.Numbers.push_hits.Goals as goal

pub loop-last-init : goal.loop-last-init
loop-last-init c = IsPushed-start c.args.self.now c.args.segment c.args.node c.args.lo c.args.hi c.args.hits.now.items c.up_to-rest.result.now c.up_to-rest.ensures

pub loop-last-preserved : goal.loop-last-preserved
loop-last-preserved c =
    rw c.in_ok-push.ensures.items
    (IsPushed_push c.args.self.now c.args.segment c.args.node c.args.lo c.args.hi c.args.hits.now.items c.in-Some.before.now c.in-Some.last.now (rw c.in-Some.ensures.cases.0 at c.loop-last.invariant)
    c.if-last-lo.false)

pub returns-then-last-lo : goal.returns-then-last-lo
returns-then-last-lo c =
    hits-IsPushed c.args.self.now c.args.segment c.args.node c.args.lo c.args.hi c.args.hits.now.items c.loop-last.invariant
    (λ number within.
    let less = le_from_last c.in-Some.before.now c.in-Some.last.now (rw c.in-Some.ensures.cases.0 at c.loop-last.invariant.rising) number (rw c.in-Some.ensures.cases.0 at within) in
    omega (arith, less, c.if-last-lo.true))

pub returns-in_default : goal.returns-in_default
returns-in_default c =
    let none = nil_from_length c.loop-last.rest.now c.in_default.ensures.cases in
    hits-IsPushed c.args.self.now c.args.segment c.args.node c.args.lo c.args.hi c.args.hits.now.items c.loop-last.invariant
    (λ number within. absurd (let below = (rw none at within).1 in omega (arith, below)))
