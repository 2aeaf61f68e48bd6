-- Why there is no report on a dump.
use Rattle.std.specs.Prelude.{◌≡◌, ℕ, ◌<◌, List, Some, length, bytes_eq}
use Rattle.svn_dump.specs.DumpError.{IsFirstAt}
use Rattle.svn_dump.specs.DumpText.{IsDumpText}
use Rattle.svn_dump.specs.Fault.{first_fault}
use Rattle.svn_dump.specs.Record.{HistoryOfBytes}
use Rattle.svn_dump.specs.declared.error.DumpError.{DumpError}
use Rattle.svn_dump.specs.declared.error.DumpError.TheVariants as refusal
use Rattle.block_map.specs.FaultKind.{kind_view}
use Rattle.svn_report.specs.QueryLines.{query_lines}
use Rattle.svn_report.specs.Report.{AreFew, most_queries}
use Rattle.block_map.specs.declared.fault.Fault.{Fault}
use Rattle.svn_report.specs.declared.repository.LoadError.{LoadError}
use Rattle.svn_report.specs.declared.repository.LoadError.TheVariants as error
use Rattle.svn_report.specs.declared.run_error.RunError.{RunError}
use Rattle.svn_report.specs.declared.run_error.RunError.TheVariants as run

-- the bytes are a dump, and this is its first faulty record
pub record IsFirstFault (dump : List ℕ) (fault : Fault) : Type 0 where
  pub history : HistoryOfBytes
  pub read : IsDumpText dump history
  pub first : first_fault bytes_eq history ≡ Some (fault.number, kind_view fault.kind)

-- the fault of the history's first faulty record, or want of memory
abbrev pub IsHistoryError : HistoryOfBytes → RunError → Type 0
IsHistoryError history run.TooMany = ⊥
IsHistoryError history (run.Dump refused) = ⊥
IsHistoryError history (run.Fault fault) = first_fault bytes_eq history ≡ Some (fault.number, kind_view fault.kind)
IsHistoryError history (run.Read source) = ⊥
IsHistoryError history run.Memory = Unit {0}

-- the first reason against the bytes as a dump; running out of memory is an error of its own
abbrev pub IsRefused : List ℕ → DumpError → Type 0
IsRefused dump (refusal.Refused number at) = IsFirstAt dump number at
IsRefused dump refusal.Memory = ⊥

-- an error that there is for this dump and these queries; that they are too many comes first
abbrev pub IsRunError : List ℕ → List ℕ → RunError → Type 0
IsRunError dump queries run.TooMany = most_queries < length (query_lines queries)
IsRunError dump queries (run.Dump refused) = AreFew queries × IsRefused dump refused
IsRunError dump queries (run.Fault fault) = AreFew queries × IsFirstFault dump fault
IsRunError dump queries (run.Read source) = ⊥
IsRunError dump queries run.Memory = Unit {0}

-- ---- how the errors of the steps are reported

abbrev pub run_error_of_dump : DumpError → RunError
run_error_of_dump (refusal.Refused number at) = run.Dump (refusal.Refused number at)
run_error_of_dump refusal.Memory = run.Memory

abbrev pub run_error_of_load : LoadError → RunError
run_error_of_load (error.Fault fault) = run.Fault fault
run_error_of_load error.Memory = run.Memory
