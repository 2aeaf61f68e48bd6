-- What an index keeps of its records.
use Rattle.std.specs.Prelude.{◌≡◌, ℕ, ◌+◌, ◌<◌, true, false, leb, ◌≤◌, List, [], ◌∷◌, ◌++◌, All, AllPairs, Option, None, Some, slice_get, slice_index_or, length, map}
use Rattle.std.specs.List.Sorted.{IsPartitionPoint}
use Rattle.svn_path.specs.declared.names.NameId.{NameId}
use Rattle.svn_dump.specs.declared.record.Origin.{Origin}
use Rattle.svn_dump.specs.declared.record.Act.{Act}
use Rattle.svn_dump.specs.declared.record.Act.TheVariants as act
use Rattle.svn_dump.specs.declared.record.NodeRecord.{NodeRecord}
use Rattle.path_index.specs.RecordEffect.{IsCopy, IsOriginBy, SetsPath}
use Rattle.path_index.specs.declared.copied.Copied.{Copied}

abbrev pub moved_by : ℕ → Copied → Copied
moved_by shift copied =
    record { index = copied.index + shift; to = copied.to; from = copied.from; from_rev = copied.from_rev }

-- the act copies from there
abbrev pub CopiesFrom : List NameId → ℕ → Act → Type 0
CopiesFrom from from_rev (act.Copy replace source source_rev mi) = (source ≡ from) × (source_rev ≡ from_rev)
CopiesFrom from from_rev _ = ⊥

-- the record of its index copies so
pub record IsCopied (records : List NodeRecord) (copied : Copied) : Type 0 where
  pub each : NodeRecord
  pub at : slice_get records copied.index ≡ Some each
  pub to : each.path ≡ copied.to
  pub from : CopiesFrom copied.from copied.from_rev each.act

-- one of the copies stands for the record of this index
pub record HasCopied (copies : List Copied) (index : ℕ) : Type 0 where
  pub number : ℕ
  pub within : number < length copies
  pub is : (d : Copied) → (slice_index_or copies number d).index ≡ index

abbrev pub copied_by : ℕ → List NameId → Act → List Copied
copied_by index to (act.Copy replace from from_rev mi) =
    record { index = index; to = to; from = from; from_rev = from_rev } ∷ []
copied_by index to _ = []

-- the copies among records, of which the first has this index
abbrev pub copied_from : ℕ → List NodeRecord → List Copied
copied_from index [] = []
copied_from index (each ∷ records) = copied_by index each.path each.act ++ copied_from (index + 1) records

-- the copies among the records, in their order
pub record AreCopies (records : List NodeRecord) (copies : List Copied) : Type 0 where
  pub sound : All (IsCopied records) copies
  pub complete : (index : ℕ) (each : NodeRecord) → slice_get records index ≡ Some each → IsCopy each.act
      → HasCopied copies index
  pub rising : AllPairs (λ one later. one.index < later.index) copies
  pub exact : copies ≡ copied_from 0 records

abbrev pub revs_of : List NodeRecord → List ℕ
revs_of records = map (λ each. each.rev) records

-- what is kept of the records
pub record AreKept (records : List NodeRecord) (revs : List ℕ) (copies : List Copied) : Type 0 where
  pub of_revs : revs ≡ revs_of records
  pub of_copies : AreCopies records copies

-- the record of the index adds the path without a copy, or copies to it or to a path above it
pub record SetsPathAt (records : List NodeRecord) (index : ℕ) (path : List NameId) : Type 0 where
  pub each : NodeRecord
  pub at : slice_get records index ≡ Some each
  pub sets : SetsPath each path

-- a copy that stands for the record of this index, or none where the record does not copy
abbrev pub IsCopyAt : List NodeRecord → ℕ → Option Copied → Type 0
IsCopyAt records index (Some copied) = IsCopied records copied × (copied.index ≡ index)
IsCopyAt records index None = (each : NodeRecord) → slice_get records index ≡ Some each → IsCopy each.act → ⊥

-- to the copies comes that of the record after some others
abbrev pub AddsCopy : ℕ → NodeRecord → List Copied → List Copied → Type 0
AddsCopy index each old new =
    (records : List NodeRecord) → length records ≡ index → AreCopies records old → AreCopies (records ++ each ∷ []) new

-- so many records are of revisions up to this one, and stand before the others
pub record IsCountUpTo (rev : ℕ) (records : List NodeRecord) (count : ℕ) : Type 0 where
  pub bound : count ≤ length records
  pub point : IsPartitionPoint (λ each. leb each.rev rev ≡ true) (λ each. leb each.rev rev ≡ false) records count

-- the origin of the path after the record of the index
abbrev pub IsOriginAt : List NodeRecord → ℕ → List NameId → Option Origin → Type 0
IsOriginAt records index path from =
    (each : NodeRecord) → slice_get records index ≡ Some each → IsOriginBy each path from
