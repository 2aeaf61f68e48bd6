-- The line and the status by which the program reports why there is no report.
use Rattle.std.specs.Prelude.{◌≡◌, ◌⊎◌, ℕ, List, [], ◌∷◌, ◌++◌, codes, decimal}
use Rattle.devices.specs.Device.{PushState}
use Rattle.devices.specs.Sending.{PrintsLine}
use Rattle.svn_dump.specs.declared.error.DumpError.{DumpError}
use Rattle.svn_dump.specs.declared.error.DumpError.TheVariants as refusal
use Rattle.svn_dump.specs.Refusal.{refusal_name_of}
use Rattle.block_map.specs.FaultKind.{fault_name_of, fault_number}
use Rattle.svn_report.specs.Report.{most_queries}
use Rattle.svn_report.specs.declared.run_error.RunError.{RunError}
use Rattle.svn_report.specs.declared.run_error.RunError.TheVariants as run
use Rattle.devices.specs.declared.source.Source.{Source}
use Rattle.devices.specs.declared.source.Source.TheVariants as source

abbrev pub source_name_of : Source → List ℕ
source_name_of source.Dump = codes "the dump"
source_name_of source.Queries = codes "the queries"
source_name_of source.Input = codes "standard input"

-- a dump refused, by the number and the name of the reason, at a byte or a record
abbrev pub refused_at : ℕ → List ℕ → List ℕ → ℕ → List ℕ
refused_at number name what place =
    codes "dump refused: " ++ decimal number ++ codes " " ++ name ++ codes " at " ++ what ++ codes " " ++ decimal place

-- what stands between `svnhist: ` and the end of the line
abbrev pub refusal_text : DumpError → List ℕ
refusal_text (refusal.Refused number at) = refused_at number (refusal_name_of number) (codes "byte") at
refusal_text refusal.Memory = codes "out of memory"

abbrev pub error_text : RunError → List ℕ
error_text run.TooMany = codes "more than " ++ (decimal most_queries ++ codes " queries")
error_text (run.Dump refused) = refusal_text refused
error_text (run.Fault fault) = refused_at (fault_number fault.kind) (fault_name_of fault.kind) (codes "record") fault.number
error_text (run.Read source) = codes "cannot read " ++ source_name_of source
error_text run.Memory = codes "out of memory"

abbrev pub line_of : RunError → List ℕ
line_of error = codes "svnhist: " ++ error_text error ++ 10 ∷ []

-- the lines of a refused dump and of a source that was not read
abbrev pub refused_text : ℕ → List ℕ → List ℕ → ℕ → List ℕ
refused_text number name what place = codes "svnhist: " ++ refused_at number name what place ++ 10 ∷ []

abbrev pub unread_text : Source → List ℕ
unread_text source = codes "svnhist: " ++ (codes "cannot read " ++ source_name_of source) ++ 10 ∷ []

abbrev pub status_of_refusal : DumpError → ℕ
status_of_refusal (refusal.Refused number at) = 1
status_of_refusal refusal.Memory = 4

-- the exit status for an error
abbrev pub status_of : RunError → ℕ
status_of run.TooMany = 1
status_of (run.Dump refused) = status_of_refusal refused
status_of (run.Fault fault) = 1
status_of (run.Read source) = 3
status_of run.Memory = 4

-- the line of an error was printed and its status answered; or memory for the line ran out, and that was
abbrev pub IsErrorLine : ℕ → RunError → PushState → PushState → Type 0
IsErrorLine status error old new =
    ((status ≡ status_of error) × PrintsLine old new (line_of error)) ⊎ ((status ≡ 4) × PrintsLine old new (line_of run.Memory))
