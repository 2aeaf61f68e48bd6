use Rattle.std.proofs.Common.{refl, []}
use Rattle.svn_text.proofs.Cuts.{CutsFirst-IsCutAt}
use Rattle.svnhist.proofs.Bundles.{too_few_lines, AreLines-none, AreLines_push, moved_line}
use Rattle.svnhist.proofs.bundle_reader.split_lines.Goals as goal

pub loop-init : goal.loop-init
loop-init c = ([], refl, AreLines-none)

pub loop-preserved : goal.loop-preserved
loop-preserved c =
    let (taken, whole, lines) = c.loop.invariant in
    let cut = CutsFirst-IsCutAt 10 c.loop.rest.now _ _ c.in_ok-more.ensures in
    (_, moved_line _ _ _ _ _ whole cut, AreLines_push _ _ _ _ _ lines cut)

pub returns-in_err-more-clause-none : goal.returns-in_err-more-clause-none
returns-in_err-more-clause-none c =
    let (taken, whole, lines) = c.loop.invariant in
    rw c.from_residual.ensures (λ queries dump given many.
    too_few_lines _ _ _ _ _ _ _ whole lines c.in_err-more.ensures c.loop-test.true given many)
