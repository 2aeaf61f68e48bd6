-- What the records by their paths say of the records.
use Rattle.std.specs.Prelude.{◌≡◌, ℕ, ◌+◌, ◌^◌, ◌<◌, ◌≤◌, ◌⊎◌, List, ◌++◌, Some, length, slice_get, take}
use Rattle.smallvec.specs.SmallVec.{SmallVec}
use Rattle.svn_path.specs.declared.names.NameId.{NameId}
use Rattle.svn_dump.specs.declared.record.NodeRecord.{NodeRecord}
use Rattle.path_index.specs.Nodes.{node_of}
use Rattle.path_index.specs.Numbers.{HasNumber}
use Rattle.path_index.specs.RecordEffect.{IsAddition, IsCopy}
use Rattle.path_index.specs.declared.nodes.Child.{Child}
use Rattle.path_index.specs.declared.records_by_path.RecordsByPath.{RecordsByPath}

-- the node is that of a path of which this holds with the number
pub record IsEntryOf (children : List Child) (Holds : List NameId → ℕ → Type 0) (node number : ℕ) : Type 0 where
  pub path : List NameId
  pub found : node_of children path ≡ Some node
  pub small : number < 2 ^ 32
  pub holds : Holds path number

-- the node of the path has the number
pub record HasEntryOf (children : List Child) (path : List NameId) (number : ℕ) (lists : List (SmallVec ℕ)) : Type 0 where
  pub node : ℕ
  pub found : node_of children path ≡ Some node
  pub within : HasNumber lists node number

-- the nodes of all paths have all numbers of which this holds with the path, and no others
pub record AreEntriesOf (children : List Child) (Holds : List NameId → ℕ → Type 0) (lists : List (SmallVec ℕ)) : Type 0 where
  pub sound : (node number : ℕ) → HasNumber lists node number → IsEntryOf children Holds node number
  pub complete : (path : List NameId) (number : ℕ) → Holds path number → HasEntryOf children path number lists

-- the nodes keep their numbers, and get all of which this holds with their paths, and no others
pub record AddsEntries (children : List Child) (Holds : List NameId → ℕ → Type 0) (old new : List (SmallVec ℕ)) : Type 0
  where
    pub kept : (node number : ℕ) → HasNumber old node number → HasNumber new node number
    pub sound : (node number : ℕ) → HasNumber new node number
        → HasNumber old node number ⊎ IsEntryOf children Holds node number
    pub complete : (path : List NameId) (number : ℕ) → Holds path number → HasEntryOf children path number new

-- one of the first `count` records is related so to the path and the number
pub record IsOfSome (IsOf : NodeRecord → ℕ → List NameId → ℕ → Type 0) (records : List NodeRecord) (count : ℕ)
    (path : List NameId) (number : ℕ) : Type 0 where
  pub index : ℕ
  pub each : NodeRecord
  pub early : index < count
  pub at : slice_get records index ≡ Some each
  pub so : IsOf each index path number

-- the record adds the path without a copy, and the number is its index
abbrev pub AddsPath : NodeRecord → ℕ → List NameId → ℕ → Type 0
AddsPath each index path number = IsAddition each.act × (each.path ≡ path) × (number ≡ index)

-- the record copies to the path
abbrev pub CopiesPath : NodeRecord → ℕ → List NameId → ℕ → Type 0
CopiesPath each index path number = IsCopy each.act × (each.path ≡ path) × (number ≡ index)

-- the path is one of the first so many above another path, from the root on, and the number is the revision
abbrev pub IsFrontAt : List NameId → ℕ → ℕ → List NameId → ℕ → Type 0
IsFrontAt whole most rev path number = ((n : ℕ) × (n ≤ most) × (path ≡ take n whole)) × (number ≡ rev)

-- the record names the path or a path below it, and the number is its revision
abbrev pub NamesPath : NodeRecord → ℕ → List NameId → ℕ → Type 0
NamesPath each index path number = IsFrontAt each.path (length each.path) each.rev path number

-- the numbers are those of the first records
pub record AreListed (records : List NodeRecord) (count : ℕ) (nodes : List Child) (added copied named : List (SmallVec ℕ))
    : Type 0 where
  pub of_added : AreEntriesOf nodes (IsOfSome AddsPath records count) added
  pub of_copied : AreEntriesOf nodes (IsOfSome CopiesPath records count) copied
  pub of_named : AreEntriesOf nodes (IsOfSome NamesPath records count) named

-- the records by path are those of a history
pub record AreByPath (records : List NodeRecord) (by_path : RecordsByPath) : Type 0 where
  pub few : length records < 2 ^ 32
  pub listed : AreListed records (length records) by_path.nodes by_path.added by_path.copied by_path.named

-- by the numbers, the record of this index adds the path without a copy, or copies to it or to a path above it
abbrev pub SetsAt : RecordsByPath → List NameId → ℕ → Type 0
SetsAt by_path path index =
    ((n : ℕ) × HasEntryOf by_path.nodes (take n path) index by_path.copied)
    ⊎ HasEntryOf by_path.nodes path index by_path.added

-- the records by path are those of two neighbouring parts of a history, the first of which has so many records
pub record AreNeighbours (one other : RecordsByPath) (count : ℕ) : Type 0 where
  pub records : List NodeRecord
  pub more : List NodeRecord
  pub first : AreByPath records one
  pub second : AreByPath more other
  pub is : length records ≡ count
  pub few : length records + length more < 2 ^ 32

-- the joined ones are of the records of both parts
abbrev pub IsOfBoth : RecordsByPath → RecordsByPath → ℕ → RecordsByPath → Type 0
IsOfBoth one other count joined =
    (records more : List NodeRecord) → length records ≡ count → length records + length more < 2 ^ 32
    → AreByPath records one → AreByPath more other → AreByPath (records ++ more) joined

-- the copy has by path the records that the other one has
abbrev pub IsOfSameRecords : RecordsByPath → RecordsByPath → Type 0
IsOfSameRecords one copy = (records : List NodeRecord) → AreByPath records one → AreByPath records copy
