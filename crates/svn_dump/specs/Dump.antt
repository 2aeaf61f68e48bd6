-- What a read dump shows: numbered names and mergeinfo texts, records by these numbers, and how many of them each
-- revision has.
use Rattle.std.specs.Prelude.{◌≡◌, ◌≢◌, ℕ, ◌+◌, ◌<◌, ◌≤◌, List, [], ◌∷◌, ◌++◌, All, IfSome, map, drop, take, length, replicate, slice_index_or, bytes_eq}
use Rattle.std.specs.List.{IsDistinct}
use Rattle.svn_path.specs.Names.{IsTable, name_of}
use Rattle.svn_path.specs.Path.{IsPathOf}
use Rattle.svn_path.specs.declared.names.NameId.{NameId}
use Rattle.svn_dump.specs.DumpText.{most_numbered}
use Rattle.svn_dump.specs.History.{Setting, keep, put, Action, delete, change, add, copy, Record, History, rename_history}
use Rattle.svn_dump.specs.Record.{HistoryOfBytes, most_components}
use Rattle.svn_dump.specs.declared.record.Act.{Act}
use Rattle.svn_dump.specs.declared.record.Act.TheVariants as act
use Rattle.svn_dump.specs.declared.record.Mi.{Mi}
use Rattle.svn_dump.specs.declared.record.Mi.TheVariants as mi
use Rattle.svn_dump.specs.declared.record.NodeRecord.{NodeRecord}
use Rattle.svn_dump.specs.declared.record.ValueId.{ValueId}

pub record DumpValue : Type 0 where
  pub names : List (List ℕ)
  pub records : List NodeRecord
  pub counts : List ℕ
  pub values : List (List ℕ)

-- ---- records as the definitions see them

abbrev pub setting_view : Mi → Setting ValueId
setting_view mi.Keep = keep
setting_view (mi.Put value) = put value

abbrev pub action_view : Act → Action NameId ValueId
action_view act.Delete = delete
action_view (act.Change setting) = change (setting_view setting)
action_view (act.Add replace kind setting) = add replace kind (setting_view setting)
action_view (act.Copy replace from from_rev setting) = copy replace from from_rev (setting_view setting)

abbrev pub record_view : NodeRecord → Record NameId ValueId
record_view each = record { path = each.path; action = action_view each.act }

-- the records of each revision, by how many each has
abbrev pub records_by_revision : {X : Type 0} → List ℕ → List X → List (List X)
records_by_revision [] items = []
records_by_revision (count ∷ counts) items = take count items ∷ records_by_revision counts (drop count items)

abbrev pub history_view : DumpValue → History NameId ValueId
history_view dump = records_by_revision dump.counts (map record_view dump.records)

abbrev pub text_of : List (List ℕ) → ℕ → List ℕ
text_of values number = slice_index_or values number []

-- the history of the dump in bytes
abbrev pub history_in_bytes : DumpValue → HistoryOfBytes
history_in_bytes dump =
    rename_history (λ name. name_of dump.names name.0) (λ value. text_of dump.values value.0) (history_view dump)

-- ---- what every dump keeps

abbrev pub IsSettingOf : ℕ → Mi → Type 0
IsSettingOf values mi.Keep = Unit {0}
IsSettingOf values (mi.Put value) = IfSome value (λ id. id.0 < values)

-- the paths and the texts are the dump's, a copy is of an earlier revision, and no path is too long
abbrev pub IsActOf : DumpValue → ℕ → Act → Type 0
IsActOf dump rev act.Delete = Unit {0}
IsActOf dump rev (act.Change setting) = IsSettingOf (length dump.values) setting
IsActOf dump rev (act.Add replace kind setting) = IsSettingOf (length dump.values) setting
IsActOf dump rev (act.Copy replace from from_rev setting) =
    IsPathOf dump.names from × (length from ≤ most_components) × (from_rev < rev) × IsSettingOf (length dump.values) setting

abbrev pub IsChange : Act → Type 0
IsChange act.Delete = ⊥
IsChange (act.Change setting) = Unit {0}
IsChange (act.Add replace kind setting) = ⊥
IsChange (act.Copy replace from from_rev setting) = ⊥

pub record IsRecordOf (dump : DumpValue) (each : NodeRecord) : Type 0 where
  pub path : IsPathOf dump.names each.path
  pub length : length each.path ≤ most_components
  pub act : IsActOf dump each.rev each.act
  pub above_zero : 0 < each.rev
  pub root : each.path ≡ [] → IsChange each.act

-- the revision of each record, by how many each revision has
abbrev pub revisions_from : ℕ → List ℕ → List ℕ
revisions_from rev [] = []
revisions_from rev (count ∷ counts) = replicate count rev ++ revisions_from (rev + 1) counts

pub record IsDump (dump : DumpValue) : Type 0 where
  pub names : IsTable dump.names
  pub texts : IsDistinct bytes_eq dump.values
  pub records : All (IsRecordOf dump) dump.records
  pub revisions : map (λ each. each.rev) dump.records ≡ revisions_from 0 dump.counts
  pub some_revision : dump.counts ≢ []
  pub few_names : length dump.names ≤ most_numbered
  pub few_records : length dump.records ≤ most_numbered
  pub few_revisions : length dump.counts ≤ most_numbered
  pub few_values : length dump.values ≤ most_numbered
