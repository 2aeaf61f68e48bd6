use Rattle.std.proofs.Common.{◌≡◌, ◌+◌, ◌*◌, take, sym, subst, arith, rules}
use Rattle.std.proofs.Math.Nat.{add-mul, one-mul, zero-mul}
use Rattle.std.specs.Fork.{slice_chunk}
use Rattle.par_scan.specs.Chain.{IsJoined}
use Rattle.par_scan.specs.Parts.{IsUpToPart}
use Rattle.par_scan.proofs.Parts.{IsFilled-push, next-fits, next-IsJoined, part-end}
use Rattle.par_scan.proofs.scanning.scan_parts.Goals as goal

pub join_to_last-requires-after_bounds : goal.join_to_last-requires-after_bounds
join_to_last-requires-after_bounds g c κs within =
    let m = g.M.Acts in
    let items = c.args.items.now in
    let size = c.args.size in
    let at = c.loop-part.part in
    let end = c.last_of-end.result.now in
    let read = rw c.as_slice.ensures.value at c.last_of-end.ensures end in
    let run : IsJoined m.act m.begin m.end (slice_chunk items size at) end =
    subst (IsJoined m.act m.begin m.end (slice_chunk items size at)) (sym read)
    (part-end m.act m.begin m.end (λ each. each.items) size items c.in_ok-scanned.scanned.items at c.index.result.now end
    c.requires.size c.in_ok-scanned.ensures (search rules) c.index.ensures) in
    rw c.as_slice-in-loop-part.ensures.value
    (next-fits m.act m.begin m.end (λ k. k * size) items c.loop-part.before.items at size end c.loop-part.invariant run m.weight m.weighs c.requires.chain)

pub loop-part-preserved : goal.loop-part-preserved
loop-part-preserved g c =
    let m = g.M.Acts in
    let items = c.args.items.now in
    let size = c.args.size in
    let at = c.loop-part.part in
    let end = c.last_of-end.result.now in
    let next = c.in_ok-next.next in
    let before = c.loop-part.before.items in
    let list = c.as_slice-in-loop-part.ensures.value in
    let read = rw c.as_slice.ensures.value at c.last_of-end.ensures end in
    let run : IsJoined m.act m.begin m.end (slice_chunk items size at) end =
    subst (IsJoined m.act m.begin m.end (slice_chunk items size at)) (sym read)
    (part-end m.act m.begin m.end (λ each. each.items) size items c.in_ok-scanned.scanned.items at c.index.result.now end
    c.requires.size c.in_ok-scanned.ensures (search rules) c.index.ensures) in
    let step : (at + 1) * size ≡ at * size + size = omega (arith, add-mul at 1 size, one-mul size) in
    let made : IsJoined m.act m.begin m.end (take ((at + 1) * size) items) next =
    next-IsJoined m.act m.begin m.end (λ k. k * size) items before at size end c.loop-part.invariant run next (zero-mul size) step
    (rw list at c.in_ok-next.ensures.first) (rw list at c.in_ok-next.ensures.next) in
    let index : at + 1 ≡ 0 + at + 1 = omega arith in
    rw c.in_ok-push.ensures.items
    (IsFilled-push (IsUpToPart m.act m.begin m.end items size) 0 at before next c.loop-part.invariant
    (subst (λ k. IsJoined m.act m.begin m.end (take (k * size) items) next) index made))
