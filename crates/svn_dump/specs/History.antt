-- A history: for each revision its records, in the order in which they stand in the dump. `C` is what a component
-- of a path is and `M` what a mergeinfo text is: numbers of a table in the layers below, bytes in a report.
use Rattle.std.specs.Prelude.{ℕ, Bool, List, Option, map, option_map}
use Rattle.svn_dump.specs.declared.record.Kind.{Kind}

-- what a record does to the mergeinfo of its path: leave it, or put a text or none
pub data Setting (M : Type 0) : Type 0 where
  keep : Setting M
  put : Option M → Setting M

-- what a record does to its path; the first part of an addition and of a copy is whether it replaces what is there
pub data Action (C M : Type 0) : Type 0 where
  delete : Action C M
  change : Setting M → Action C M
  add : Bool → Kind → Setting M → Action C M
  copy : Bool → List C → ℕ → Setting M → Action C M

pub record Record (C M : Type 0) : Type 0 where
  pub path : List C
  pub action : Action C M

abbrev pub History : Type 0 → Type 0 → Type 0
History C M = List (List (Record C M))

-- a history with other components and other texts
abbrev pub rename_setting : {M N : Type 0} → (M → N) → Setting M → Setting N
rename_setting text keep = keep
rename_setting text (put value) = put (option_map text value)

abbrev pub rename_action : {C D M N : Type 0} → (C → D) → (M → N) → Action C M → Action D N
rename_action name text delete = delete
rename_action name text (change setting) = change (rename_setting text setting)
rename_action name text (add replace kind setting) = add replace kind (rename_setting text setting)
rename_action name text (copy replace from from_rev setting) = copy replace (map name from) from_rev (rename_setting text setting)

abbrev pub rename_record : {C D M N : Type 0} → (C → D) → (M → N) → Record C M → Record D N
rename_record name text each = record { path = map name each.path; action = rename_action name text each.action }

abbrev pub rename_history : {C D M N : Type 0} → (C → D) → (M → N) → History C M → History D N
rename_history name text history = map (map (rename_record name text)) history
