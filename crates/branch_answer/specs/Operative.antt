-- The operative revisions of a path as such, whichever node stood there.
use Rattle.std.specs.Prelude.{◌≡◌, ℕ, ◌+◌, ◌-◌, ◌≤◌, Bool, List, ◌++◌, bytes_eq, filter}
use Rattle.svn_path.specs.Path.{components_of}
use Rattle.svn_path.specs.declared.names.NameId.{NameId}
use Rattle.svn_dump.specs.Dump.{DumpValue, history_in_bytes}
use Rattle.path_index.specs.Operative.{down_from, is_operative, names_below, records_in}
use Rattle.query_answer.specs.OriginsInBytes.{KeepsPathIn}
use Rattle.query_answer.specs.Repo.{trees_in_bytes}
use Rattle.branch_answer.specs.Presence.{IsThereIn}

abbrev pub is_operative_in : DumpValue → List NameId → ℕ → Bool
is_operative_in dump path rev =
    is_operative bytes_eq (history_in_bytes dump) (trees_in_bytes dump) (components_of dump.names path) rev

-- a record of the revision names the path or a path below it
abbrev pub is_named_in : DumpValue → List NameId → ℕ → Bool
is_named_in dump path rev =
    names_below bytes_eq (components_of dump.names path) (records_in (history_in_bytes dump) rev)

-- the operative revisions of the path from `lo` to `hi`, the newest first
abbrev pub operative_from_to : DumpValue → List NameId → ℕ → ℕ → List ℕ
operative_from_to dump path lo hi = filter (is_operative_in dump path) (down_from (hi + 1 - lo) hi)

-- the path of the revision is there, and nothing set it after an older one
pub record StaysAfter (dump : DumpValue) (path : List NameId) (above last : ℕ) : Type 0 where
  pub there : IsThereIn dump path last
  pub keeps : KeepsPathIn dump path above last

-- to the revisions come the operative ones from `first`, which is not before `lo`, to `last`
pub record AddsFrom (dump : DumpValue) (path : List NameId) (lo last : ℕ) (old new : List ℕ) (first : ℕ) : Type 0 where
  pub low : lo ≤ first
  pub within : first ≤ last
  pub added : new ≡ old ++ operative_from_to dump path first last
