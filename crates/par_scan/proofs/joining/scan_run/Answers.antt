use Rattle.std.proofs.Common.{◌≡◌, ◌+◌, take, refl, subst, arith}
use Rattle.par_scan.specs.Chain.{IsJoined}
use Rattle.par_scan.specs.Parts.{IsUpTo}
use Rattle.par_scan.proofs.Chains.{IsJoined-at}
use Rattle.par_scan.proofs.Parts.{IsFilled-push, next-fits, next-IsJoined}
use Rattle.par_scan.proofs.joining.scan_run.Goals as goal

pub join_to_last-requires-after_bounds : goal.join_to_last-requires-after_bounds
join_to_last-requires-after_bounds g c κs within =
    let m = g.M.Acts in
    let items = c.args.items.now in
    let at = c.loop-item.item-index in
    let item = c.item-item.result in
    rw c.as_slice.ensures.value
    (next-fits m.act m.begin m.end (λ k. k) items c.loop-item.joined.items at 1 item c.loop-item.invariant
    (IsJoined-at m.act m.begin m.end items at item c.loop-item-test.true c.item-item.is) m.weight m.weighs c.requires)

pub loop-item-preserved : goal.loop-item-preserved
loop-item-preserved g c =
    let m = g.M.Acts in
    let items = c.args.items.now in
    let at = c.loop-item.item-index in
    let item = c.item-item.result in
    let next = c.in_ok-next.next in
    let joined = c.loop-item.joined.items in
    let list = c.as_slice.ensures.value in
    let made : IsJoined m.act m.begin m.end (take (at + 1) items) next =
    next-IsJoined m.act m.begin m.end (λ k. k) items joined at 1 item c.loop-item.invariant
    (IsJoined-at m.act m.begin m.end items at item c.loop-item-test.true c.item-item.is) next refl refl
    (rw list at c.in_ok-next.ensures.first) (rw list at c.in_ok-next.ensures.next) in
    let index : at + 1 ≡ 0 + at + 1 = omega arith in
    rw c.in_ok-push.ensures.items
    (IsFilled-push (IsUpTo m.act m.begin m.end items) 0 at joined next c.loop-item.invariant
    (subst (λ k. IsJoined m.act m.begin m.end (take k items) next) index made))
