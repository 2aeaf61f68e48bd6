use Rattle.live_history.proofs.Common.{drop, take, length, ap, subst, arith, length-drop, IsCutAt, Lacks}
use Rattle.live_history.proofs.ReadAheads.{AreNear-searched, HasLine-found, Lacks-both, drop-whole}
use Rattle.live_history.proofs.read_ahead.ReadAhead.line.Goals as goal

pub returns-in-None-clause-none : goal.returns-in-None-clause-none
returns-in-None-clause-none c =
    let unread = ap (λ each. each.unread) c.self.view_is in
    let searched = c.self.inside.searched in
    Lacks-both c.args.self.now.unread searched (subst (λ all. Lacks 10 (take searched all)) unread c.self.invariant.1)
    (subst (λ all. Lacks 10 (drop searched all)) c.unread.ensures (subst (Lacks 10) (drop-whole searched c.unread.result.now) c.in-None.ensures))

pub returns-in-Some-clause-line : goal.returns-in-Some-clause-line
returns-in-Some-clause-line c =
    let unread = ap (λ each. each.unread) c.self.view_is in
    let searched = c.self.inside.searched in
    HasLine-found c.args.self.now.unread searched c.in-Some.front.now c.in-Some.field-0-1.now
    (omega (arith, c.self.invariant.0, ap length unread, length-drop c.self.inside.taken c.self.inside.bytes.items))
    (subst (λ all. Lacks 10 (take searched all)) unread c.self.invariant.1)
    (subst (λ all. IsCutAt 10 (drop searched all) c.in-Some.front.now c.in-Some.field-0-1.now) c.unread.ensures
    (subst (λ rest. IsCutAt 10 rest c.in-Some.front.now c.in-Some.field-0-1.now) (drop-whole searched c.unread.result.now) c.in-Some.ensures))

pub returns-in-Some-clause-near : goal.returns-in-Some-clause-near
returns-in-Some-clause-near c =
    let unread = ap (λ each. each.unread) c.self.view_is in
    let searched = c.self.inside.searched in
    let long = length-drop c.self.inside.taken c.self.inside.bytes.items in
    AreNear-searched c.args.self.now.unread searched (omega (arith, c.self.invariant.0, ap length unread, long)) (subst (λ all. Lacks 10 (take searched all)) unread c.self.invariant.1)
    (omega (arith, c.self.invariant.0, c.self.invariant.3, ap length unread, long))
