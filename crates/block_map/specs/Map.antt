-- What a map shows, and when it is a map of some records.
use Rattle.std.specs.List.{sum_by}
use Rattle.std.specs.Prelude.{◌≡◌, ℕ, ◌+◌, ◌*◌, ◌<◌, ◌≤◌, List, Option, None, Some, length, map, option_and_then, option_map, take}
use Rattle.svn_path.specs.Path.{same_name}
use Rattle.svn_path.specs.declared.names.NameId.{NameId}
use Rattle.svn_dump.specs.Dump.{DumpValue, IsDump, history_view, record_view}
use Rattle.svn_dump.specs.History.{Record}
use Rattle.svn_dump.specs.State.{state}
use Rattle.svn_dump.specs.Tree.{Tree, tree_of, trees_of}
use Rattle.svn_dump.specs.declared.record.NodeRecord.{NodeRecord}
use Rattle.svn_dump.specs.declared.record.ValueId.{ValueId}
use Rattle.block_map.specs.Ends.{end_of, ends_of, record_at_tick}
use Rattle.block_map.specs.FaultFound.{Standings}
use Rattle.block_map.specs.Look as look
use Rattle.block_map.specs.Look.{Look, at, at_with, is, absent, resolved, look}
use Rattle.block_map.specs.Standing.{Standing, entry_view, standing_of}
use Rattle.block_map.specs.declared.entry.Entry.{Entry}
use Rattle.block_map.specs.declared.found.Found.{Found}
use Rattle.block_map.specs.declared.found.Found.TheVariants as found
use Rattle.block_map.specs.declared.entry.Nearest.{Nearest}

-- the tick before its first record, its records, with the sources of copies at ticks, and how many nodes it keeps
pub record MapValue : Type 0 where
  pub lo : ℕ
  pub records : List (Record NameId ValueId)
  pub nodes : ℕ

-- the tick after its last record
abbrev pub hi_of : MapValue → ℕ
hi_of map = map.lo + length map.records

-- components and mergeinfo texts as numbers, and the source of a copy at a tick
abbrev pub records_at_ticks : List ℕ → List NodeRecord → List (Record NameId ValueId)
records_at_ticks ends records = map (λ each. record_at_tick ends (record_view each)) records

-- what its records say of a path at a tick
abbrev pub look_in : MapValue → ℕ → Look NameId ValueId
look_in map tick path = resolved map.lo (look same_name map.lo map.records tick path)

-- what stands at each path at each tick, as far as that is known
abbrev pub standings_in : MapValue → Standings NameId ValueId
standings_in map tick path = standing_of (look_in map tick path)

-- what the records of a dump say of a path at a tick
abbrev pub look_in_dump : DumpValue → ℕ → Look NameId ValueId
look_in_dump dump tick path = resolved 0 (look same_name 0 (records_at_ticks (ends_of dump.counts) dump.records) tick path)

-- it is a map of the first records of a dump: it shows what the records of the dump say, up to its last tick
pub record IsMapOfFirstRecords (dump : DumpValue) (map : MapValue) : Type 0 where
  pub lo : map.lo ≡ 0
  pub within : hi_of map ≤ length dump.records
  pub looks : (tick : ℕ) (path : List NameId) → tick ≤ hi_of map → look_in map tick path ≡ look_in_dump dump tick path

-- it is a map of all records of a dump
pub record IsMapOf (dump : DumpValue) (map : MapValue) : Type 0 where
  pub first : IsMapOfFirstRecords dump map
  pub whole : hi_of map ≡ length dump.records

-- what was found, as the definitions see it
abbrev pub found_view : Found → look.Found NameId ValueId
found_view (found.At path tick) = at path tick
found_view (found.AtWith path tick mi) = at_with path tick mi
found_view (found.Is kind mi) = is kind mi
found_view found.Absent = absent

-- the most nodes of a map of the records, of however many blocks: one for each component of a record's path, and one more
abbrev pub nodes_for : List (Record NameId ValueId) → ℕ
nodes_for records = sum_by (λ each. length each.path + 1) records

-- the most nodes of a map of so many records, whose paths have at most 1,024 components
abbrev pub most_nodes : ℕ → ℕ
most_nodes records = 1026 * records

-- the number of a mergeinfo text, and how many components its path has
abbrev pub nearest_view : Nearest → ValueId × ℕ
nearest_view nearest = (nearest.mi, nearest.depth)

-- the mergeinfo is that of the first so many components of the path, given what each path has
abbrev pub IsNearest : (List NameId → Option ValueId) → List NameId → Nearest → Type 0
IsNearest own path nearest = (nearest.depth ≤ length path) × (own (take nearest.depth path) ≡ Some nearest.mi)

-- the first components of the path, from so many on, have none
abbrev pub HasNoneFrom : (List NameId → Option ValueId) → List NameId → ℕ → Type 0
HasNoneFrom own path depth = (more : ℕ) → depth ≤ more → more ≤ length path → own (take more path) ≡ None

-- the mergeinfo of the path, or of the nearest path above it that has some
abbrev pub IsNearestOrNone : (List NameId → Option ValueId) → List NameId → Option Nearest → Type 0
IsNearestOrNone own path None = HasNoneFrom own path 0
IsNearestOrNone own path (Some nearest) = IsNearest own path nearest × HasNoneFrom own path (nearest.depth + 1)

-- what stands at the path, and the nearest mergeinfo of it, given what stands at each path
abbrev pub AreEntryAndNearest : (List NameId → Option (Standing ValueId)) → List NameId → Option Entry × Option Nearest → Type 0
AreEntryAndNearest standing path found =
    (option_map entry_view found.0 ≡ standing path)
    × IsNearestOrNone (λ above. option_and_then (λ each. each.mergeinfo) (standing above)) path found.1

-- ---- in a map of records of a dump

-- the tree after so many records
abbrev pub state_in : DumpValue → ℕ → Tree NameId ValueId
state_in dump tick = state same_name (history_view dump) tick

-- the tree of a revision
abbrev pub revision_in : DumpValue → ℕ → Tree NameId ValueId
revision_in dump rev = tree_of (trees_of same_name (history_view dump)) rev

-- the tick is the end of a revision of the dump
pub record IsEndIn (dump : DumpValue) (rev tick : ℕ) : Type 0 where
  pub dump_is : IsDump dump
  pub within : rev < length dump.counts
  pub end : tick ≡ end_of dump.counts rev
