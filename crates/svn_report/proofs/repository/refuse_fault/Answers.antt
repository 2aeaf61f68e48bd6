use Rattle.svn_report.proofs.Common.{option_map, sym, ap, ◌∙◌}
use Rattle.block_map.specs.FaultKind.{fault_view}
use Rattle.svn_report.proofs.LoadErrors.{IsLoadError-fault}
use Rattle.svn_report.proofs.repository.refuse_fault.Goals as goal

pub returns-in-Some-clause-faulty : goal.returns-in-Some-clause-faulty
returns-in-Some-clause-faulty g c =
    IsLoadError-fault c.args.dump.now c.requires.dump c.in-Some.fault
    (ap (option_map fault_view) (sym c.in-Some.is) ∙ c.in_ok-fault.ensures)
