use Rattle.svn_report.proofs.Common.{refl}
use Rattle.svn_report.proofs.GrownRepos.{HaveSources-grown, IsMapOf-grown, checked-grown}
use Rattle.svn_report.proofs.repository.grown_map.Goals as goal

pub grow-requires-clause-sources : goal.grow-requires-clause-sources
grow-requires-clause-sources g c =
    rw (c.split_at.ensures.back, c.hi-known.ensures, c.records.ensures.value, c.requires.ends) (HaveSources-grown c.requires.before.1 c.records.ensures.kept)

pub refuse_fault-requires-clause-map : goal.refuse_fault-requires-clause-map
refuse_fault-requires-clause-map g c κs within =
    let ensured = c.in_ok-map.ensures in
    IsMapOf-grown c.requires.before.1 c.in_ok-map.map c.split_at.result.1.now (rw (c.split_at.ensures.back, c.hi-known.ensures, c.records.ensures.value) refl) ensured.lo (rw c.requires.ends at ensured.records)
    (λ first more. ensured.of_first c.args.dump.now first more c.requires.ends)

pub refuse_fault-requires-clause-checked : goal.refuse_fault-requires-clause-checked
refuse_fault-requires-clause-checked g c κs within = rw c.hi-known.ensures (checked-grown c.requires.before.1)

pub returns-clause-map : goal.returns-clause-map
returns-clause-map g c =
    let ensured = c.in_ok-map.ensures in
    IsMapOf-grown c.requires.before.1 c.in_ok-map.map c.split_at.result.1.now (rw (c.split_at.ensures.back, c.hi-known.ensures, c.records.ensures.value) refl) ensured.lo (rw c.requires.ends at ensured.records)
    (λ first more. ensured.of_first c.args.dump.now first more c.requires.ends)
