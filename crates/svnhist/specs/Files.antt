-- The report on two files, or why there is none. The queries are opened and read before the dump is opened.
use Rattle.std.specs.Prelude.{◌≡◌, ◌⊎◌, ℕ, List}
use Rattle.devices.specs.Device.{PullState}
use Rattle.devices.specs.declared.source.Source.TheVariants.{Dump as DumpFile, Queries}
use Rattle.svn_report.specs.Load.{IsReadWhole, IsUnread}
use Rattle.svn_report.specs.ReportFrom.{IsReportFrom, IsRunErrorFrom}
use Rattle.svn_report.specs.declared.run_error.RunError.{RunError}
use Rattle.svn_report.specs.declared.run_error.RunError.TheVariants.{Read, Memory}
use Rattle.svnhist.specs.Arguments.{ArgumentsValue}

-- memory ran out, and no read failed
abbrev pub IsOutOfMemory : PullState → PullState → RunError → Type 0
IsOutOfMemory old new error = (error ≡ Memory) × (new.failures ≡ old.failures)

-- `files` are before what is said, and `after` is what became of them
module _ {F : Type 0} (opens : F → List ℕ → F → Type 0) (state : F → PullState) (files after : F) where
  -- a path was opened, and all bytes there were read
  pub record IsFileRead (path bytes : List ℕ) : Type 0 where
    pub opened : F
    pub opening : opens files path opened
    pub read : IsReadWhole (state opened) (state after) bytes

  -- a path of queries was opened, and they were not read to their end, or memory ran out
  pub record IsUnreadQueries (path : List ℕ) (error : RunError) : Type 0 where
    pub opened : F
    pub opening : opens files path opened
    pub why : IsOutOfMemory (state opened) (state after) error ⊎ ((error ≡ Read Queries) × IsUnread (state opened) (state after))

  -- a path was opened, and this is the report on the dump there
  pub record IsReportOnDump (path queries report : List ℕ) : Type 0 where
    pub opened : F
    pub opening : opens files path opened
    pub right : IsReportFrom (state opened) (state after) queries report

  -- why there is none on it
  pub record IsRefusedDump (path queries : List ℕ) (error : RunError) : Type 0 where
    pub opened : F
    pub opening : opens files path opened
    pub why : IsRunErrorFrom (state opened) (state after) queries error
    -- want of memory is no failed read
    pub memory : error ≡ Memory → (state after).failures ≡ (state opened).failures

module _ {F : Type 0} (opens : F → List ℕ → F → Type 0) (state : F → PullState) (files after : F) where
  -- all queries of the one path were read, and this is the report on the dump of the other
  pub record IsReportOnFiles (asked : ArgumentsValue) (report : List ℕ) : Type 0 where
    pub queries : List ℕ
    pub between : F
    pub read : IsFileRead opens state files between asked.queries queries
    pub right : IsReportOnDump opens state between after asked.dump queries report

-- ---- where there is no report, with the paths that can't be opened

module _ {F : Type 0} (opens refuses : F → List ℕ → F → Type 0) (state : F → PullState) (files after : F) where
  -- why the queries of a path are not there
  abbrev pub IsErrorOnQueries : List ℕ → RunError → Type 0
  IsErrorOnQueries path error = ((error ≡ Read Queries) × refuses files path after) ⊎ IsUnreadQueries opens state files after path error

  -- why there is no report on the dump of a path
  abbrev pub IsErrorOnDump : List ℕ → List ℕ → RunError → Type 0
  IsErrorOnDump path queries error =
      ((error ≡ Read DumpFile) × refuses files path after) ⊎ IsRefusedDump opens state files after path queries error

module _ {F : Type 0} (opens refuses : F → List ℕ → F → Type 0) (state : F → PullState) (files after : F) where
  -- all queries were read, and there is no report on the dump
  pub record IsErrorAfterQueries (asked : ArgumentsValue) (error : RunError) : Type 0 where
    pub queries : List ℕ
    pub between : F
    pub read : IsFileRead opens state files between asked.queries queries
    pub why : IsErrorOnDump opens refuses state between after asked.dump queries error

  abbrev pub IsErrorOnFiles : ArgumentsValue → RunError → Type 0
  IsErrorOnFiles asked error = IsErrorOnQueries opens refuses state files after asked.queries error ⊎ IsErrorAfterQueries asked error
