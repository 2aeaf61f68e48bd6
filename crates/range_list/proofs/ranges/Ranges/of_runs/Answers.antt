use Rattle.std.proofs.Common.{subst}
use Rattle.std.specs.Bool.{OnTrue}
use Rattle.range_list.specs.Rangelist.{IsCanonical}
use Rattle.range_list.proofs.Maximal.{canonical_runs-only}
use Rattle.range_list.proofs.Same.{HasSameNumbers-refl}
use Rattle.range_list.proofs.ranges.Ranges.of_runs.Goals as goal

pub returns-then-is_canonical-clause-exact : goal.returns-then-is_canonical-clause-exact
returns-then-is_canonical-clause-exact c =
    let runs = c.args.runs.items in
    let tested = subst (λ answer. OnTrue answer (IsCanonical c.deref.result.now)) c.if-is_canonical.true c.is_canonical.ensures in
    let canonical = subst IsCanonical c.deref.ensures.value tested in
    canonical_runs-only runs runs c.requires canonical (HasSameNumbers-refl runs)
