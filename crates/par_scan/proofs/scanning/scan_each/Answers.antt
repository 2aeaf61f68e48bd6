use Rattle.std.proofs.Common.{rules}
use Rattle.std.proofs.lemmas.Result.{IfOk-weaker}
use Rattle.par_scan.specs.Parts.{IsScan}
use Rattle.par_scan.proofs.Parts.{AreOfParts-threads, chunk-IsChain}
use Rattle.par_scan.proofs.scanning.scan_each.Goals as goal

pub map_chunks-requires-clause-accepts : goal.map_chunks-requires-clause-accepts
map_chunks-requires-clause-accepts g c κs within start p chunk =
    let m = g.M.Acts in
    (chunk-IsChain m.begin m.end m.weight c.args.items.now c.args.size start p.now c.requires.chain chunk, (search rules, search rules))

pub returns : goal.returns
returns g c =
    let m = g.M.Acts in
    let given = c.in_ok-results.ensures in
    IfOk-weaker c.all_ok.result _ _
    (λ scanned oks. AreOfParts-threads _ _ (λ part each. IsScan m.act m.begin m.end part each.items) c.args.size c.args.items.now c.in_ok-results.results.items scanned.items
    c.requires.size (search rules) given.each (λ start p r post. search rules) oks)
    c.all_ok.ensures
