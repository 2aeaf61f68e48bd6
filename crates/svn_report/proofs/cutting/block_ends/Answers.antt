use Rattle.svn_report.proofs.Common.{◌≡◌, ◌+◌, ◌-◌, min, length, ap, sym, subst, arith, rules, block_length}
use Rattle.svn_report.proofs.BlockEnds.{AreBorders-ends, AreEndsUpTo, AreEndsUpTo-more}
use Rattle.svn_report.proofs.cutting.block_ends.Goals as goal

pub loop-end-preserved : goal.loop-end-preserved
loop-end-preserved c =
    let cuts = c.args.cuts.now in
    let last = c.args.last in
    let ends = c.loop-end.ends.items in
    let end = c.loop-end.end in
    let len : c.len.result ≡ length ends = search rules in
    let long = ap (λ n. block_length cuts last (n - 1)) len in
    let step : end + c.min-end.result ≡ end + min (block_length cuts last (length ends - 1)) (last - end) =
    omega (arith, long, c.length_of_block.ensures, c.min-end.ensures) in
    subst (AreEndsUpTo cuts last (end + c.min-end.result)) (sym c.in_ok-push.ensures.items)
    (AreEndsUpTo-more cuts last end (end + c.min-end.result) ends c.requires.cuts c.loop-end-test.true step c.loop-end.invariant)

pub returns-clause-borders : goal.returns-clause-borders
returns-clause-borders c =
    let are = c.loop-end.invariant in
    AreBorders-ends c.args.cuts.now c.args.last c.loop-end.ends.items
    (record { some = are.some; each = are.each; all = omega arith; fewest = are.fewest })
