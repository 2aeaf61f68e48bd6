use Rattle.svn_report.proofs.Common.{◌∙◌, first_fault-in_bytes}
use Rattle.svn_report.proofs.RecordEnds.{ends_view-small, ends_view-sums}
use Rattle.svn_report.proofs.repository.load_repo.Goals as goal

pub new-ends-requires : goal.new-ends-requires
new-ends-requires g c =
    ends_view-small c.args.dump c.in_ok-sums.ensures.kept c.in_ok-sums.sums.items c.in_ok-sums.ensures.exact

pub map_and_index-requires-clause-ends : goal.map_and_index-requires-clause-ends
map_and_index-requires-clause-ends g c κs within =
    c.new-ends.ensures ∙ ends_view-sums c.args.dump.counts c.in_ok-sums.sums.items c.in_ok-sums.ensures.exact

pub new-requires-clause-ends : goal.new-requires-clause-ends
new-requires-clause-ends g c =
    c.new-ends.ensures ∙ ends_view-sums c.args.dump.counts c.in_ok-sums.sums.items c.in_ok-sums.ensures.exact

pub returns-clause-lawful : goal.returns-clause-lawful
returns-clause-lawful g c =
    first_fault-in_bytes c.args.dump c.in_ok-sums.ensures.kept ∙ c.in_ok-map.ensures.lawful
