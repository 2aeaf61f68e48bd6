-- What stays the same while the tables of names and of texts grow.
use Rattle.svn_dump.proofs.Common.{◌≡◌, ℕ, ◌<◌, ◌≤◌, List, [], ◌∷◌, map, length, get_or, refl, sym, ap, ap₂, subst, ◌∙◌, append-nil, arith, length-append, All, None, Some, get_or_append_left, All-head, All-tail, with_names, Extends, action_in_bytes, record_in_bytes, setting_in_bytes, DumpValue, IsActOf, IsRecordOf, IsSettingOf, text_of, put, change, add, copy, NodeRecord}
use Rattle.svn_path.specs.Path.{IsPathOf, components_of}
use Rattle.svn_path.specs.declared.names.NameId.{NameId}
use Rattle.svn_path.proofs.Tables.{with_names-append, IsPathOf-append, components_of-append}
use Rattle.svn_dump.specs.declared.record.Act.{Act}
use Rattle.svn_dump.specs.declared.record.Act.TheVariants as act
use Rattle.svn_dump.specs.declared.record.Mi.{Mi}
use Rattle.svn_dump.specs.declared.record.Mi.TheVariants as mi

-- ---- tables

-- a table extends itself
pub Extends-same : (names : List (List ℕ)) → Extends names names
Extends-same names = ([], sym (append-nil names))

-- adding names extends
pub Extends-with_names : (names added : List (List ℕ)) → Extends names (with_names names added)
Extends-with_names names added = with_names-append names added

-- by these names
pub Extends-by : (old new added : List (List ℕ)) → new ≡ with_names old added → Extends old new
Extends-by old new added same =
    let grown = with_names-append old added in
    (grown.0, same ∙ grown.1)

-- it gets no shorter
pub length-Extends : (old new : List (List ℕ)) → Extends old new → length old ≤ length new
length-Extends old new grows = omega (arith, ap length grows.1, length-append old grows.0)

-- ---- paths

-- a path of the table stays one
pub IsPathOf-grows : (old new : List (List ℕ)) (path : List NameId) → Extends old new → IsPathOf old path → IsPathOf new path
IsPathOf-grows old new path grows of = subst (λ names. IsPathOf names path) (sym grows.1) (IsPathOf-append old grows.0 path of)

-- and spells the same
pub components_of-grows : (old new : List (List ℕ)) (path : List NameId) → Extends old new → IsPathOf old path → components_of new path ≡ components_of old path
components_of-grows old new path grows of = ap (λ names. components_of names path) grows.1 ∙ components_of-append old grows.0 path of

-- ---- settings

-- a text keeps its number
pub text_of-grows : (old new : List (List ℕ)) (number : ℕ) → Extends old new → number < length old → text_of new number ≡ text_of old number
text_of-grows old new number grows below = ap (λ texts. text_of texts number) grows.1 ∙ get_or_append_left old grows.0 [] number below

-- a setting of the table stays one
pub IsSettingOf-grows : (old new : List (List ℕ)) (each : Mi) → Extends old new → IsSettingOf (length old) each → IsSettingOf (length new) each
IsSettingOf-grows old new mi.Keep grows of = tt
IsSettingOf-grows old new (mi.Put None) grows of = tt
IsSettingOf-grows old new (mi.Put (Some id)) grows of = omega (arith, length-Extends old new grows)

-- and tells the same
pub setting_in_bytes-grows : (old new : List (List ℕ)) (each : Mi) → Extends old new → IsSettingOf (length old) each → setting_in_bytes new each ≡ setting_in_bytes old each
setting_in_bytes-grows old new mi.Keep grows of = refl
setting_in_bytes-grows old new (mi.Put None) grows of = refl
setting_in_bytes-grows old new (mi.Put (Some id)) grows of = ap (λ text. put (Some text)) (text_of-grows old new id.0 grows of)

-- ---- records

-- an action of the dump stays one
pub IsActOf-grows : (old new : DumpValue) (rev : ℕ) (each : Act) → Extends old.names new.names → Extends old.values new.values → IsActOf old rev each → IsActOf new rev each
IsActOf-grows old new rev act.Delete grows texts of = tt
IsActOf-grows old new rev (act.Change setting) grows texts of = IsSettingOf-grows old.values new.values setting texts of
IsActOf-grows old new rev (act.Add replace kind setting) grows texts of = IsSettingOf-grows old.values new.values setting texts of
IsActOf-grows old new rev (act.Copy replace from from_rev setting) grows texts of =
    (IsPathOf-grows old.names new.names from grows of.0, of.1, of.2, IsSettingOf-grows old.values new.values setting texts of.3)

-- and so does a record
pub IsRecordOf-grows : (old new : DumpValue) (each : NodeRecord) → Extends old.names new.names → Extends old.values new.values → IsRecordOf old each → IsRecordOf new each
IsRecordOf-grows old new each grows texts of = record {
  path = IsPathOf-grows old.names new.names each.path grows of.path;
  length = of.length;
  act = IsActOf-grows old new each.rev each.act grows texts of.act;
  above_zero = of.above_zero;
  root = of.root;
}

-- and so do all records
pub All-IsRecordOf-grows : (old new : DumpValue) (records : List NodeRecord) → Extends old.names new.names → Extends old.values new.values → All (IsRecordOf old) records → All (IsRecordOf new) records
All-IsRecordOf-grows old new records grows texts all = λ k d h. IsRecordOf-grows old new (get_or records k d) grows texts (all k d h)

module _ (dump : DumpValue) (new texts : List (List ℕ)) (grows : Extends dump.names new) (texts_grow : Extends dump.values texts) where
  -- an action tells the same
  pub action_in_bytes-grows : (rev : ℕ) (each : Act) → IsActOf dump rev each → action_in_bytes new texts each ≡ action_in_bytes dump.names dump.values each
  action_in_bytes-grows rev act.Delete of = refl
  action_in_bytes-grows rev (act.Change setting) of = ap change (setting_in_bytes-grows dump.values texts setting texts_grow of)
  action_in_bytes-grows rev (act.Add replace kind setting) of = ap (add replace kind) (setting_in_bytes-grows dump.values texts setting texts_grow of)
  action_in_bytes-grows rev (act.Copy replace from from_rev setting) of =
      ap₂ (λ parts told. copy replace parts from_rev told) (components_of-grows dump.names new from grows of.0)
      (setting_in_bytes-grows dump.values texts setting texts_grow of.3)

  -- and so does a record
  pub record_in_bytes-grows : (each : NodeRecord) → IsRecordOf dump each → record_in_bytes new texts each ≡ record_in_bytes dump.names dump.values each
  record_in_bytes-grows each of =
      ap₂ (λ path action. record { path = path; action = action }) (components_of-grows dump.names new each.path grows of.path) (action_in_bytes-grows each.rev each.act of.act)

  -- and so do all records
  pub map-record_in_bytes-grows : (records : List NodeRecord) → All (IsRecordOf dump) records → map (record_in_bytes new texts) records ≡ map (record_in_bytes dump.names dump.values) records
  map-record_in_bytes-grows [] all = refl
  map-record_in_bytes-grows (each ∷ records) all =
      ap₂ (λ x xs. x ∷ xs) (record_in_bytes-grows each (All-head (IsRecordOf dump) each records all))
      (map-record_in_bytes-grows records (All-tail (IsRecordOf dump) each records all))
