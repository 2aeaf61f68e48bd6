-- How an index acts on a list of records, and the numbers of records between which it stands.
use Rattle.std.specs.Prelude.{ℕ, ◌+◌, List, ◌++◌, length}
use Rattle.svn_dump.specs.declared.record.NodeRecord.{NodeRecord}
use Rattle.path_index.specs.Index.{IndexValue}

-- an index puts its own records before others
abbrev pub put_records_before : IndexValue → List NodeRecord → List NodeRecord
put_records_before index records = index.records ++ records

-- how many records precede those of the index
abbrev pub records_before : IndexValue → ℕ
records_before index = index.first

-- how many records precede those that follow the index
abbrev pub records_up_to_end : IndexValue → ℕ
records_up_to_end index = index.first + length index.records
