use Rattle.svn_report.proofs.Common.{◌∙◌, first_fault-in_bytes}
use Rattle.svn_report.proofs.repository.grow_repo.Goals as goal

pub returns-clause-lawful : goal.returns-clause-lawful
returns-clause-lawful g c = first_fault-in_bytes c.args.dump c.in_ok-ends.ensures.kept ∙ c.in_ok-ends.ensures.lawful
