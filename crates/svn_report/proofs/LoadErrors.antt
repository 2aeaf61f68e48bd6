-- Why a dump has no repository.
use Rattle.svn_report.proofs.Common.{◌≡◌, Some, sym, ◌∙◌, same_name, DumpValue, IsDump, history_view, first_fault-in_bytes, IsLoadError}
use Rattle.svn_dump.specs.Fault.{first_fault}
use Rattle.block_map.specs.FaultKind.{fault_view}
use Rattle.block_map.specs.declared.fault.Fault.{Fault}
use Rattle.svn_report.specs.declared.repository.LoadError.TheVariants as error

-- the first faulty record by numbers is that in bytes
pub IsLoadError-fault : (dump : DumpValue) → IsDump dump → (fault : Fault)
    → Some (fault_view fault) ≡ first_fault same_name (history_view dump) → IsLoadError dump (error.Fault fault)
IsLoadError-fault dump kept fault first = first_fault-in_bytes dump kept ∙ sym first
