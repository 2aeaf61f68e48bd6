use Rattle.svn_report.proofs.Common.{refl, ap, ◌∙◌}
use Rattle.svn_report.proofs.GrownRepos.{records-grown}
use Rattle.svn_report.proofs.RecordEnds.{ends_view-small, ends_view-sums}
use Rattle.svn_report.proofs.repository.grown_parts.Goals as goal

pub new-ends-requires : goal.new-ends-requires
new-ends-requires g c = ends_view-small c.args.dump.now c.in_ok-record_ends.ensures.kept c.in_ok-record_ends.field-0.items c.in_ok-record_ends.ensures.exact

pub grown_map-requires-clause-ends : goal.grown_map-requires-clause-ends
grown_map-requires-clause-ends g c κs within = c.new-ends.ensures ∙ ends_view-sums c.args.dump.now.counts c.in_ok-record_ends.field-0.items c.in_ok-record_ends.ensures.exact

pub returns-clause-ends : goal.returns-clause-ends
returns-clause-ends g c = c.new-ends.ensures ∙ ends_view-sums c.args.dump.now.counts c.in_ok-record_ends.field-0.items c.in_ok-record_ends.ensures.exact

pub returns-clause-index : goal.returns-clause-index
returns-clause-index g c =
    let ensured = c.in_ok-index.ensures in
    record {
      records = ensured.records ∙ records-grown c.requires.before c.split_at.result.1.now (rw (c.split_at.ensures.back, c.hi-known.ensures, c.records.ensures.value) refl);
      first = ensured.first ∙ ap (λ index. index.first) c.requires.before.index_is;
    }
