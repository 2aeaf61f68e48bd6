use Rattle.std.proofs.Common.{rules}
use Rattle.std.proofs.lemmas.Result.{IfOk-weaker}
use Rattle.par_scan.specs.Parts.{IsAfterAt}
use Rattle.par_scan.proofs.Parts.{Each-threads}
use Rattle.par_scan.proofs.scanning.join_parts.Goals as goal

pub map_indices-requires-after_bounds : goal.map_indices-requires-after_bounds
map_indices-requires-after_bounds g c κs within part below = ((below, c.requires.len, c.requires.fits part below), (search rules, search rules))

pub returns-clause-each : goal.returns-clause-each
returns-clause-each g c =
    let m = g.M.Acts in
    IfOk-weaker c.all_ok.result _ _
    (λ joined oks. Each-threads _ _ (λ part each. IsAfterAt m.act m.begin m.end c.args.before.now c.args.parts.now part each.items) _
    c.in_ok-results.results.items joined.items (search rules) c.in_ok-results.ensures.each (λ part r post. search rules) oks)
    c.all_ok.ensures
