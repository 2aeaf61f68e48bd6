use Rattle.std.proofs.Common.{◌≡◌, ◌<◌, ◌++◌, length, ap, sym, subst, ◌∙◌, rules}
use Rattle.std.proofs.lemmas.Result.{IfOk-weaker}
use Rattle.std.specs.List.{flat_map}
use Rattle.par_scan.specs.Parts.{IsScan}
use Rattle.par_scan.proofs.Parts.{parts-fit, parts-scan, scan-AreJoinedUpTo}
use Rattle.par_scan.proofs.scanning.scan.Goals as goal

pub join_parts-requires-clause-fits : goal.join_parts-requires-clause-fits
join_parts-requires-clause-fits g c κs within part =
    let m = g.M.Acts in
    let size = c.div_ceil-size.result in
    let made = c.in_ok-scanned.ensures in
    let list = c.as_slice.ensures.value in
    let scanned = c.in_ok-scanned.scanned.items in
    let before = c.in_ok-scanned.before.items in
    rw (c.as_slice-2.ensures.value, c.as_slice-3.ensures.value)
    (λ below. parts-fit m.act m.begin m.end (λ each. each.items) size c.args.items.items scanned
    (rw list at made.scanned) before (rw list at made.before) m.weight m.weighs c.requires.chain part below)

pub returns : goal.returns
returns g c =
    let m = g.M.Acts in
    let items = c.args.items.items in
    let size = c.div_ceil-size.result in
    let made = c.in_ok-scanned.ensures in
    let list = c.as_slice.ensures.value in
    let scanned = c.in_ok-scanned.scanned.items in
    let before = c.in_ok-scanned.before.items in
    let first = c.swap_remove.result in
    let later = c.in_ok-later.later.items in
    let some : 0 < length scanned = search rules in
    let count : length later ≡ length before = c.in_ok-later.ensures.len ∙ ap length c.as_slice-2.ensures.value in
    let joined = rw (c.as_slice-2.ensures.value, c.as_slice-3.ensures.value) at c.in_ok-later.ensures.each in
    let scan : IsScan m.act m.begin m.end items (first.items ++ flat_map (λ each. each.items) later) =
    parts-scan m.act m.begin m.end (λ each. each.items) size items scanned (rw list at made.scanned) before (rw list at made.before)
    first later some c.swap_remove.ensures.value count joined in
    record {
      len = IfOk-weaker c.append_all.result _ _
          (λ all is.
          let same : length all.items ≡ length items = (subst (IsScan m.act m.begin m.end items) (sym is) scan).len in
          search rules)
          c.append_all.ensures;
      joined = IfOk-weaker c.append_all.result _ _
          (λ all is. scan-AreJoinedUpTo m.act m.begin m.end items all.items (subst (IsScan m.act m.begin m.end items) (sym is) scan))
          c.append_all.ensures;
    }
