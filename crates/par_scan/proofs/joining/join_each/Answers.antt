use Rattle.std.proofs.Common.{◌≡◌, ◌+◌, [], ◌∷◌, length, get_or, subst, arith}
use Rattle.std.proofs.lemmas.List.{get_or_read}
use Rattle.par_scan.specs.Chain.{IsJoined}
use Rattle.par_scan.specs.Parts.{IsAfter, IsFilled}
use Rattle.par_scan.proofs.Parts.{IsFilled-push}
use Rattle.par_scan.proofs.joining.join_each.Goals as goal

pub loop-item-preserved : goal.loop-item-preserved
loop-item-preserved g c =
    let m = g.M.Acts in
    let items = c.args.items.now in
    let at = c.loop-item.item-index in
    let before = c.args.before.now in
    let index : at ≡ 0 + at = omega arith in
    rw c.in_ok-push.ensures.items
    (IsFilled-push (IsAfter m.act m.begin m.end before items) 0 at _ _ c.loop-item.invariant
    (λ d. subst (λ i. IsJoined m.act m.begin m.end (before ∷ get_or items i d ∷ []) c.in_ok-next.next) index
    (subst (λ x. IsJoined m.act m.begin m.end (before ∷ x ∷ []) c.in_ok-next.next)
    (get_or_read items at c.item-item.result c.loop-item-test.true c.item-item.is d) c.in_ok-next.ensures)))

pub returns : goal.returns
returns g c =
    let m = g.M.Acts in
    let items = c.args.items.now in
    let all : c.loop-item.item-index ≡ length items = omega arith in
    subst (λ n. IsFilled (IsAfter m.act m.begin m.end c.args.before.now items) 0 n c.loop-item.joined.items) all c.loop-item.invariant
