-- Blocks of the records of a history, each between two borders, which are numbers of records.
use Rattle.std.specs.Prelude.{◌≡◌, ℕ, ◌+◌, ◌-◌, ◌^◌, ◌<◌, ◌≤◌, All, List, length}
use Rattle.std.specs.Prelude.{slice_index, slice_range}
use Rattle.svn_dump.specs.declared.record.NodeRecord.{NodeRecord}
use Rattle.svn_dump.specs.Record.{most_components}
use Rattle.block_map.specs.Ends.{HaveSources}
use Rattle.block_map.specs.Map.{MapValue, records_at_ticks}
use Rattle.path_index.specs.Index.{IndexValue}

-- the borders rise from the first one to the last one
pub record AreBorders (first last : ℕ) (borders : List ℕ) : Type 0 where
  pub some : 0 < length borders
  pub starts : slice_index borders 0 ≡ first
  pub rise : (i j : ℕ) → i ≤ j → j < length borders → slice_index borders i ≤ slice_index borders j
  pub ends : slice_index borders (length borders - 1) ≡ last

-- there is a block of that number, and its records are among these
pub record HasBlock (records : List NodeRecord) (borders : List ℕ) (block : ℕ) : Type 0 where
  pub inside : block + 1 < length borders
  pub rises : slice_index borders block ≤ slice_index borders (block + 1)
  pub ends : slice_index borders (block + 1) ≤ length records
  pub few : length records < 2 ^ 32

-- the index is of the records of that block
pub record IsIndexOfBlock (all : List NodeRecord) (borders : List ℕ) (block : ℕ) (index : IndexValue) : Type 0 where
  pub records : index.records ≡ slice_range all (slice_index borders block) (slice_index borders (block + 1))
  pub first : index.first ≡ slice_index borders block

-- the index is of all records
pub record IsIndexOf (all : List NodeRecord) (index : IndexValue) : Type 0 where
  pub records : index.records ≡ all
  pub first : index.first ≡ 0

-- there is a block of that number, of whose records a map can be made
pub record HasMapOfBlock (records : List NodeRecord) (ends borders : List ℕ) (block : ℕ) : Type 0 where
  pub has : HasBlock records borders block
  pub short : All (λ each. length each.path ≤ most_components) records
  pub sources : HaveSources 0 ends records

-- the map is of the records of that block
pub record IsMapOfBlock (all : List NodeRecord) (ends borders : List ℕ) (block : ℕ) (map : MapValue) : Type 0 where
  pub lo : map.lo ≡ slice_index borders block
  pub records : map.records ≡ records_at_ticks ends (slice_range all (slice_index borders block) (slice_index borders (block + 1)))
