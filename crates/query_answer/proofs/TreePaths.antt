-- What holds of each component of a history's paths holds of what its locations find.
use Rattle.query_answer.proofs.Common.{◌≡◌, ℕ, zero, suc, ◌<◌, ◌==◌, nat_lt, Bool, true, false, if◌then◌else◌, List, [], ◌∷◌, ◌++◌, Option, None, Some, All, IfSome, option_map, length, refl, subst, All-nil, All-cons, All-tail, All-append, none-some, same_Some, option_and_then_some, DumpValue, IsDump, IsActOf, action_view, history_view, Action, delete, change, add, copy, Record, History, origin_of, location_within, location, Entry, entry_at, tree_of, entry_of_copy, trees_of, entry_from, below, same_name, IsPathOf, NameId, ValueId, IsSame, IsSame-same_name}
use Rattle.svn_dump.specs.declared.record.Act.{Act}
use Rattle.svn_dump.specs.declared.record.Act.TheVariants as act
use Rattle.svn_dump.proofs.Locations.{not_past}
use Rattle.query_answer.proofs.TreeEntries.{ActionKeeps, IsKept, entry_at-has, history_has}

-- the components of the source have it
abbrev pub SourceHas : {C M : Type 0} → (C → Type 0) → Action C M → Type 0
SourceHas P delete = Unit {0}
SourceHas P (change setting) = Unit {0}
SourceHas P (add replace kind setting) = Unit {0}
SourceHas P (copy replace from from_rev setting) = All P from

-- and so have those of the path
pub record RecordHas {C M : Type 0} (P : C → Type 0) (each : Record C M) : Type 0 where
  pub path : All P each.path
  pub source : SourceHas P each.action

-- each record of the history is so
abbrev pub HistoryHas : {C M : Type 0} → (C → Type 0) → History C M → Type 0
HistoryHas P history = All (All (RecordHas P)) history

-- what is left of a path keeps it
rest_has : {C : Type 0} (same : C → C → Bool) (P : C → Type 0) (front path rest : List C) → below same front path ≡ Some rest → All P path → All P rest
rest_has same P [] path rest left has = subst (All P) (same_Some path rest left) has
rest_has same P (f ∷ front) [] rest left has = absurd (none-some rest left)
rest_has {C} same P (f ∷ front) (c ∷ path) rest left has = by (same f c) left (λ more. rest_has same P front path rest more (All-tail P c path has))
  where
    by : (b : Bool) → (if b then below same front path else None) ≡ Some rest → (below same front path ≡ Some rest → All P rest) → All P rest
    by true left later = later left
    by false left later = absurd (none-some rest left)

module _ {C M : Type 0} (same : C → C → Bool) (P : C → Type 0) where
  -- the components of the path and of its origin have it
  abbrev EntryHas : List C × Entry C M → Type 0
  EntryHas each = All P each.0 × IfSome each.1.origin (λ from. All P from.0)

  moved_has : (from : List C) (from_rev : ℕ) (path : List C) → All P path → (each : List C × Entry C M) → EntryHas each → IfSome {T = List C × Entry C M} (entry_of_copy same from from_rev path each) EntryHas
  moved_has from from_rev path has each e = by (below same from each.0) refl
    where
      by : (b : Option (List C)) → below same from each.0 ≡ b → IfSome {T = List C × Entry C M} (option_map (λ rest. (path ++ rest, entry_from each.0 from_rev each.1)) b) EntryHas
      by None left = tt
      by (Some rest) left = (All-append P path rest has (rest_has same P from each.0 rest left e.0), e.0)

  action_keeps : (path : List C) (action : Action C M) → All P path → SourceHas P action → ActionKeeps same EntryHas path action
  action_keeps path delete at from = tt
  action_keeps path (change setting) at from = λ each e. e
  action_keeps path (add replace kind setting) at from = (at, tt)
  action_keeps path (copy replace from from_rev setting) at source = (moved_has from from_rev path at, λ each e. e)

  entries_keep : IsKept same EntryHas (RecordHas P)
  entries_keep = record {
    first = All-cons EntryHas _ [] (All-nil P, tt) (All-nil EntryHas);
    carried = λ rev each e. (e.0, e.0);
    action = λ each has. action_keeps each.path each.action has.path has.source;
  }

  -- ---- what stands at a path, and what a location finds

  module _ (is : IsSame same) (history : History C M) (each : HistoryHas P history) where
    pub entry_has : (path : List C) (rev : ℕ) (entry : Entry C M) → entry_at same (tree_of (trees_of same history) rev) path ≡ Some entry → EntryHas (path, entry)
    entry_has path rev entry found = entry_at-has same EntryHas (RecordHas P) entries_keep is history each path rev entry found

    -- an origin
    pub origin_has : (path : List C) (rev : ℕ) (from : List C) (from_rev : ℕ) → origin_of same (trees_of same history) path rev ≡ Some (from, from_rev) → All P from
    origin_has path rev from from_rev came =
        option_and_then_some (λ (entry : Entry C M). entry.origin) (entry_at same (tree_of (trees_of same history) rev) path) (from, from_rev) came
        (λ entry found origin.
        subst (λ o. IfSome o (λ o. All P o.0)) origin (entry_has path rev entry found).1)

    traced_has : (steps : ℕ) (path : List C) (rev wanted : ℕ) (at : List C) → All P path → location_within same (trees_of same history) steps path rev wanted ≡ Some at → All P at
    unfolding location_within
    traced_has zero path rev wanted at has found = by (rev == wanted) found
      where
        by : (b : Bool) → (if b then Some path else None) ≡ Some at → All P at
        by true found = subst (All P) (same_Some path at found) has
        by false found = absurd (none-some at found)
    traced_has (suc steps) path rev wanted at has found =
        by (rev == wanted) found
        (λ back. option_and_then_some _ (origin_of same (trees_of same history) path rev) at back
        (λ from came onward. traced_has steps from.0 from.1 wanted at (origin_has path rev from.0 from.1 came) (not_past (nat_lt from.1 wanted) _ at onward).1))
      where
        by : (b : Bool) {o : Option (List C)} → (if b then Some path else o) ≡ Some at → (o ≡ Some at → All P at) → All P at
        by true found later = subst (All P) (same_Some path at found) has
        by false found later = later found

    -- what a location finds, where the path that is asked about has it
    pub location_has : (path : List C) (rev wanted : ℕ) (at : List C) → All P path → location same (trees_of same history) path rev wanted ≡ Some at → All P at
    location_has path rev wanted at has found = traced_has rev path rev wanted at has found

-- ---- the paths of a dump are of its names

abbrev IsNamed : DumpValue → NameId → Type 0
IsNamed dump name = name.0 < length dump.names

source_named : (dump : DumpValue) (rev : ℕ) (each : Act) → IsActOf dump rev each → SourceHas (IsNamed dump) (action_view each)
source_named dump rev act.Delete is = tt
source_named dump rev (act.Change setting) is = tt
source_named dump rev (act.Add replace kind setting) is = tt
source_named dump rev (act.Copy replace from from_rev setting) is = is.0

-- each component of a dump's paths is the number of a name
pub HistoryHas-names : (dump : DumpValue) → IsDump dump → HistoryHas (λ name. name.0 < length dump.names) (history_view dump)
HistoryHas-names dump is =
    history_has dump is (RecordHas (IsNamed dump)) (λ each of. record { path = of.path; source = source_named dump each.rev each.act of.act })

module _ (dump : DumpValue) (is : IsDump dump) where
  -- what a location finds
  pub IsOf-location : (path : List NameId) (peg rev : ℕ) (found : List NameId) → IsPathOf dump.names path
      → location same_name (trees_of same_name (history_view dump)) path peg rev ≡ Some found → IsPathOf dump.names found
  IsOf-location path peg rev found of at = location_has same_name (IsNamed dump) IsSame-same_name (history_view dump) (HistoryHas-names dump is) path peg rev found of at

  -- and each path in a tree
  pub IsOf-entry : (path : List NameId) (rev : ℕ) (entry : Entry NameId ValueId) → entry_at same_name (tree_of (trees_of same_name (history_view dump)) rev) path ≡ Some entry
      → IsPathOf dump.names path
  IsOf-entry path rev entry found = (entry_has same_name (IsNamed dump) IsSame-same_name (history_view dump) (HistoryHas-names dump is) path rev entry found).0
