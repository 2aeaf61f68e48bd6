use Rattle.svn_report.proofs.Common.{ap, map, sym, subst, ◌∙◌, IsChain, sum_of}
use Rattle.par_scan.specs.Sum.{no_border, sum_weight}
use Rattle.svn_report.proofs.RecordEnds.{AreRecordEnds-scan, IsChain-counts}
use Rattle.svn_report.proofs.record_borders.record_ends.Goals as goal

pub scan-requires-clause-chain : goal.scan-requires-clause-chain
scan-requires-clause-chain g c κs within =
    subst (IsChain no_border no_border sum_weight) (sym (c.in_ok-sums.ensures ∙ ap (map sum_of) c.counts.ensures.value)) (IsChain-counts c.args.dump.now c.counts.ensures.kept)

pub returns-clause-exact : goal.returns-clause-exact
returns-clause-exact g c =
    AreRecordEnds-scan c.args.dump.now.counts c.in_ok-sums.sums c.scan.result (c.in_ok-sums.ensures ∙ ap (map sum_of) c.counts.ensures.value) c.scan.ensures.len c.scan.ensures.joined
