-- When a path was set last, and where it came from (Subversion book, "Copying branches": a copy of a directory copies
-- each path below it).
use Rattle.std.specs.Prelude.{◌≡◌, ℕ, ◌<◌, ◌≤◌, ◌⊎◌, pred, List, Option, Some}
use Rattle.svn_path.specs.Path.{same_name}
use Rattle.svn_path.specs.declared.names.NameId.{NameId}
use Rattle.svn_dump.specs.Location.{origin_of}
use Rattle.svn_dump.specs.declared.record.NodeRecord.{NodeRecord}
use Rattle.path_index.specs.History.{trees_to}
use Rattle.path_index.specs.Index.{IsThere}
use Rattle.path_index.specs.Records.{SetsPathAt}

-- where the path of a revision came from
abbrev pub origin_in : List NodeRecord → List NameId → ℕ → Option (List NameId × ℕ)
origin_in records path rev = origin_of same_name (trees_to records rev) path rev

-- some record of the revision sets the path
pub record IsSetIn (records : List NodeRecord) (path : List NameId) (rev : ℕ) : Type 0 where
  pub index : ℕ
  pub set : SetsPathAt records index path
  pub in_revision : set.each.rev ≡ rev

-- the revision is the newest one up to `rev` whose records set the path, or 0 if there is none
pub record IsLastSet (records : List NodeRecord) (path : List NameId) (rev found : ℕ) : Type 0 where
  pub within : found ≤ rev
  pub sets : (found ≡ 0) ⊎ IsSetIn records path found
  pub newest : (later : ℕ) → found < later → later ≤ rev → IsSetIn records path later → ⊥

-- after `from` and up to `to`, a path that is there was there in the revision before, from which it came
abbrev pub KeepsPath : List NodeRecord → List NameId → ℕ → ℕ → Type 0
KeepsPath records path from to =
    (later : ℕ) → from < later → later ≤ to → IsThere records path later
    → IsThere records path (pred later) × (origin_in records path later ≡ Some (path, pred later))
