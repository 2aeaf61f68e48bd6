-- The report on a history.
use Rattle.svn_report.proofs.Common.{DumpValue, history_in_bytes, IsLoadError}
use Rattle.svn_report.specs.ReportError.{IsHistoryError, run_error_of_load}
use Rattle.svn_report.specs.declared.repository.LoadError.{LoadError}
use Rattle.svn_report.specs.declared.repository.LoadError.TheVariants as error

-- why a dump has no repository is why there is no report on its history
pub IsHistoryError-load : (dump : DumpValue) (refused : LoadError) → IsLoadError dump refused
    → IsHistoryError (history_in_bytes dump) (run_error_of_load refused)
IsHistoryError-load dump (error.Fault fault) first = first
IsHistoryError-load dump error.Memory first = tt
