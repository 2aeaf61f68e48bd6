-- Why a dump has no repository, and of what the repository of a grown dump is made.
use Rattle.std.specs.Prelude.{◌≡◌, None, Some, bytes_eq, ⊤}
use Rattle.svn_path.specs.Path.{same_name}
use Rattle.svn_dump.specs.Dump.{DumpValue, IsDump, history_in_bytes, history_view}
use Rattle.svn_dump.specs.Fault.{first_fault}
use Rattle.svn_dump.specs.Growth.{GrowsTo}
use Rattle.path_index.specs.Index.{IndexValue}
use Rattle.block_map.specs.FaultKind.{kind_view}
use Rattle.block_map.specs.Map.{IsMapOf, MapValue}
use Rattle.query_answer.specs.Repo.{index_of_dump}
use Rattle.svn_report.specs.declared.repository.LoadError.{LoadError}
use Rattle.svn_report.specs.declared.repository.LoadError.TheVariants as error

-- the fault is that of the dump's first faulty record
abbrev pub IsLoadError : DumpValue → LoadError → Type 0
IsLoadError dump (error.Fault fault) =
    first_fault bytes_eq (history_in_bytes dump) ≡ Some (fault.number, kind_view fault.kind)
IsLoadError dump error.Memory = ⊤

-- the index and the map are those of a lawful dump that has grown to this one
pub record AreOfDumpBefore (dump : DumpValue) (index : IndexValue) (map : MapValue) : Type 0 where
  pub old : DumpValue
  pub dump_is : IsDump old
  pub grew : GrowsTo old dump
  pub index_is : index ≡ index_of_dump old
  pub map_is : IsMapOf old map
  pub lawful : first_fault same_name (history_view old) ≡ None
