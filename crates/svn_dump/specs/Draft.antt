-- A dump that is being read: what it keeps between two blocks.
use Rattle.std.specs.Prelude.{◌≡◌, ℕ, ◌≤◌, nat_le, nat_lt, Bool, ◌||◌, List, [], ◌++◌, All, bytes_eq, length, map}
use Rattle.std.specs.List.{IsDistinct}
use Rattle.svn_path.specs.Names.{IsTable, name_of}
use Rattle.svn_dump.specs.Dump.{DumpValue, IsRecordOf, action_view, record_view, revisions_from, history_in_bytes, setting_view, text_of}
use Rattle.svn_dump.specs.DumpText.{IsSmall, names_of, values_of, most_numbered}
use Rattle.svn_dump.specs.History.{Setting, rename_action, rename_record, rename_setting}
use Rattle.svn_dump.specs.Record.{ActionOfBytes, RecordOfBytes}
use Rattle.svn_dump.specs.declared.record.Act.{Act}
use Rattle.svn_dump.specs.declared.record.Mi.{Mi}
use Rattle.svn_dump.specs.declared.record.NodeRecord.{NodeRecord}

-- a setting, an action and a record in bytes, given the names and the texts
abbrev pub setting_in_bytes : List (List ℕ) → Mi → Setting (List ℕ)
setting_in_bytes texts mi = rename_setting (λ value. text_of texts value.0) (setting_view mi)

abbrev pub action_in_bytes : List (List ℕ) → List (List ℕ) → Act → ActionOfBytes
action_in_bytes names texts act = rename_action (λ name. name_of names name.0) (λ value. text_of texts value.0) (action_view act)

abbrev pub record_in_bytes : List (List ℕ) → List (List ℕ) → NodeRecord → RecordOfBytes
record_in_bytes names texts each = rename_record (λ name. name_of names name.0) (λ value. text_of texts value.0) (record_view each)

-- the new names or texts are the old ones, and others after them
abbrev pub Extends : List (List ℕ) → List (List ℕ) → Type 0
Extends old new = (more : List (List ℕ)) × (new ≡ old ++ more)

abbrev pub dump_of : List (List ℕ) → List NodeRecord → List ℕ → List (List ℕ) → DumpValue
dump_of names records counts texts = record { names = names; records = records; counts = counts; values = texts }

-- a dump without records
abbrev pub only_tables : List (List ℕ) → List (List ℕ) → DumpValue
only_tables names texts = dump_of names [] [] texts

-- what a dump keeps while it is read
pub record IsDraft (dump : DumpValue) : Type 0 where
  pub records : All (IsRecordOf dump) dump.records
  pub revisions : map (λ each. each.rev) dump.records ≡ revisions_from 0 dump.counts
  pub few_records : length dump.records ≤ most_numbered
  pub few_revisions : length dump.counts ≤ most_numbered

-- the names are those of the history, and no others
abbrev pub IsNamed : DumpValue → Type 0
IsNamed dump = dump.names ≡ names_of (history_in_bytes dump)

-- the mergeinfo texts are those of the records so far
abbrev pub IsValued : DumpValue → Type 0
IsValued dump = dump.values ≡ values_of (history_in_bytes dump)

-- nothing but that history is kept, and it isn't too large
pub record IsWholeHistory (dump : DumpValue) : Type 0 where
  pub named : IsNamed dump
  pub valued : IsValued dump
  pub names : IsTable dump.names
  pub texts : IsDistinct bytes_eq dump.values
  pub small : IsSmall (history_in_bytes dump)

-- there are too many names or texts, or as many records as there may be
abbrev pub is_full : DumpValue → Bool
is_full dump =
    nat_lt most_numbered (length dump.names) || nat_lt most_numbered (length dump.values) || nat_le most_numbered (length dump.records)
