-- What holds of each mergeinfo that a history's records put holds of each mergeinfo of its trees.
use Rattle.query_answer.proofs.Common.{◌≡◌, ℕ, ◌<◌, Bool, List, [], ◌++◌, Option, None, Some, All, IfSome, option_map, length, subst, All-nil, All-cons, option_and_then_some, DumpValue, IsDump, IsActOf, IsSettingOf, action_view, setting_view, history_view, Setting, keep, put, Action, delete, change, add, copy, History, Entry, entry_at, mergeinfo_after, entry_of_copy, tree_of, trees_of, ValueId, entry_from, below, same_name, NameId, IsSame, IsSame-same_name, own_mergeinfo}
use Rattle.svn_dump.specs.declared.record.Act.{Act}
use Rattle.svn_dump.specs.declared.record.Act.TheVariants as act
use Rattle.svn_dump.specs.declared.record.Mi.{Mi}
use Rattle.svn_dump.specs.declared.record.Mi.TheVariants as mi
use Rattle.query_answer.proofs.TreeEntries.{ActionKeeps, IsKept, entry_at-has, history_has}

-- the mergeinfo that is put has it, if there is some
abbrev pub SettingHas : {M : Type 0} → (M → Type 0) → Setting M → Type 0
SettingHas P keep = Unit {0}
SettingHas P (put value) = IfSome value P

-- that of an action does
abbrev pub ActionPuts : {C M : Type 0} → (M → Type 0) → Action C M → Type 0
ActionPuts P delete = Unit {0}
ActionPuts P (change setting) = SettingHas P setting
ActionPuts P (add replace kind setting) = SettingHas P setting
ActionPuts P (copy replace from from_rev setting) = SettingHas P setting

-- that of each record of the history does
abbrev pub HistoryPuts : {C M : Type 0} → (M → Type 0) → History C M → Type 0
HistoryPuts P history = All (All (λ each. ActionPuts P each.action)) history

module _ {C M : Type 0} (same : C → C → Bool) (P : M → Type 0) where
  -- the mergeinfo of an entry has it, if there is some
  abbrev EntryHas : List C × Entry C M → Type 0
  EntryHas each = IfSome each.1.mergeinfo P

  after_has : (setting : Setting M) (old : Option M) → SettingHas P setting → IfSome old P → IfSome (mergeinfo_after setting old) P
  after_has keep old puts has = has
  after_has (put new) old puts has = puts

  moved_has : (from : List C) (from_rev : ℕ) (path : List C) (each : List C × Entry C M) → EntryHas each
      → IfSome {T = List C × Entry C M} (entry_of_copy same from from_rev path each) EntryHas
  moved_has from from_rev path each has = by (below same from each.0)
    where
      by : (b : Option (List C))
          → IfSome {T = List C × Entry C M} (option_map (λ rest. (path ++ rest, entry_from each.0 from_rev each.1)) b) EntryHas
      by None = tt
      by (Some rest) = has

  action_keeps : (path : List C) (action : Action C M) → ActionPuts P action → ActionKeeps same EntryHas path action
  action_keeps path delete puts = tt
  action_keeps path (change setting) puts = λ each has. after_has setting each.1.mergeinfo puts has
  action_keeps path (add replace kind setting) puts = after_has setting None puts tt
  action_keeps path (copy replace from from_rev setting) puts =
      (moved_has from from_rev path, λ each has. after_has setting each.1.mergeinfo puts has)

  entries_keep : IsKept same EntryHas (λ each. ActionPuts P each.action)
  entries_keep = record {
    first = All-cons EntryHas _ [] tt (All-nil EntryHas);
    carried = λ rev each has. has;
    action = λ each puts. action_keeps each.path each.action puts;
  }

  -- it holds of the mergeinfo of each path
  pub own_mergeinfo_has : IsSame same → (history : History C M) → HistoryPuts P history → (path : List C) (rev : ℕ) (mergeinfo : M)
      → own_mergeinfo same (tree_of (trees_of same history) rev) path ≡ Some mergeinfo → P mergeinfo
  own_mergeinfo_has is history each path rev mergeinfo own =
      option_and_then_some (λ (entry : Entry C M). entry.mergeinfo)
      (entry_at same (tree_of (trees_of same history) rev) path) mergeinfo own
      (λ entry found its.
      subst (λ o. IfSome o P) its
      (entry_at-has same EntryHas (λ each. ActionPuts P each.action) entries_keep is history each path rev entry found))

-- ---- the mergeinfo of a dump's trees are texts of the dump

abbrev IsNumbered : DumpValue → ValueId → Type 0
IsNumbered dump value = value.0 < length dump.values

setting_numbered : (dump : DumpValue) (setting : Mi)
    → IsSettingOf (length dump.values) setting → SettingHas (IsNumbered dump) (setting_view setting)
setting_numbered dump mi.Keep is = tt
setting_numbered dump (mi.Put value) is = is

act_numbered : (dump : DumpValue) (rev : ℕ) (each : Act) → IsActOf dump rev each → ActionPuts (IsNumbered dump) (action_view each)
act_numbered dump rev act.Delete is = tt
act_numbered dump rev (act.Change setting) is = setting_numbered dump setting is
act_numbered dump rev (act.Add replace kind setting) is = setting_numbered dump setting is
act_numbered dump rev (act.Copy replace from from_rev setting) is = setting_numbered dump setting is.3

-- each mergeinfo that a dump's records put is the number of a text
pub HistoryPuts-values : (dump : DumpValue) → IsDump dump → HistoryPuts (λ value. value.0 < length dump.values) (history_view dump)
HistoryPuts-values dump is =
    history_has dump is (λ each. ActionPuts (IsNumbered dump) each.action) (λ each of. act_numbered dump each.rev each.act of.act)

-- so is that of each path
pub mergeinfo-within : (dump : DumpValue) → IsDump dump → (path : List NameId) (rev : ℕ) (mergeinfo : ValueId)
    → own_mergeinfo same_name (tree_of (trees_of same_name (history_view dump)) rev) path ≡ Some mergeinfo → mergeinfo.0 < length dump.values
mergeinfo-within dump is path rev mergeinfo own =
    own_mergeinfo_has same_name (IsNumbered dump) IsSame-same_name (history_view dump) (HistoryPuts-values dump is) path rev mergeinfo own
