-- What each record of a history keeps of an entry holds of each entry of its trees.
use Rattle.query_answer.proofs.Common.{◌≡◌, ℕ, Bool, true, false, if◌then◌else◌, List, [], ◌∷◌, Option, None, Some, All, IfSome, fold, length, map, take, drop, refl, subst, cond_both, All-nil, All-cons, All-head, All-tail, All-append, All-push, All-map, All-weaker, All-filter, All-take, All-drop, none-some, same_Some, cons_option, DumpValue, IsDump, IsRecordOf, records_by_revision, record_view, history_view, Setting, Action, delete, change, add, copy, Record, History, Tree, Entry, entry_at, tree_of, tree_without, tree_with_mergeinfo, entry_of_copy, tree_after_action, tree_after_record, first_tree, tree_from_revision, start_tree, end_tree, with_revision, trees_of, NodeRecord, ValueId, each_tree_push, entry_from, new_entry, settled_entry, same_path, NameId, IsSame, same_path-is}
use Rattle.std.proofs.Common.{filter_map}

-- what holds of each thing that a list's elements give
pub All-filter_map : {X Y : Type 0} (h : X → Option Y) (P : Y → Type 0) (xs : List X) → All (λ x. IfSome (h x) P) xs → All P (filter_map h xs)
All-filter_map h P [] each = All-nil P
All-filter_map {X} {Y} h P (x ∷ xs) each =
    by (h x) (All-head (λ x. IfSome (h x) P) x xs each) (All-filter_map h P xs (All-tail (λ x. IfSome (h x) P) x xs each))
  where
    by : (o : Option Y) → IfSome o P → All P (filter_map h xs) → All P (cons_option o (filter_map h xs))
    by None here more = more
    by (Some y) here more = All-cons P y (filter_map h xs) here more

-- an entry whose mergeinfo is settled keeps it
abbrev pub SettingKeeps : {C M : Type 0} → (List C × Entry C M → Type 0) → Setting M → Type 0
SettingKeeps {C} {M} E setting = (each : List C × Entry C M) → E each → E (each.0, settled_entry setting each.1)

-- each entry that an action puts has it
abbrev pub ActionKeeps : {C M : Type 0} → (C → C → Bool) → (List C × Entry C M → Type 0) → List C → Action C M → Type 0
ActionKeeps same E path delete = Unit {0}
ActionKeeps same E path (change setting) = SettingKeeps E setting
ActionKeeps same E path (add replace kind setting) = E (path, new_entry kind setting)
ActionKeeps {C} {M} same E path (copy replace from from_rev setting) =
    ((each : List C × Entry C M) → E each → IfSome (entry_of_copy same from from_rev path each) E) × SettingKeeps E setting

-- the root of the first tree has it, an entry that is carried on keeps it, and the actions of such records do
pub record IsKept {C M : Type 0} (same : C → C → Bool) (E : List C × Entry C M → Type 0) (R : Record C M → Type 0) : Type 0 where
  pub first : All E first_tree
  pub carried : (rev : ℕ) (each : List C × Entry C M) → E each → E (each.0, entry_from each.0 rev each.1)
  pub action : (each : Record C M) → R each → ActionKeeps same E each.path each.action

module _ {C M : Type 0} (same : C → C → Bool) (E : List C × Entry C M → Type 0) (R : Record C M → Type 0) (kept : IsKept same E R) where
  changed_has : (path : List C) (setting : Setting M) (tree : Tree C M)
      → SettingKeeps E setting → All E tree → All E (tree_with_mergeinfo same path setting tree)
  changed_has path setting tree keeps has =
      All-map E _ tree
      (All-weaker E _
      (λ each e. cond_both (same_path same each.0 path) (each.0, settled_entry setting each.1) each E (λ _. keeps each e) (λ _. e))
      tree has)

  module _ (trees : List (Tree C M)) (all : (rev : ℕ) → All E (tree_of trees rev)) where
    action_has : (path : List C) (action : Action C M) (tree : Tree C M)
        → ActionKeeps same E path action → All E tree → All E (tree_after_action same trees path action tree)
    unfolding tree_after_action
    action_has path delete tree keeps has = All-filter _ E tree has
    action_has path (change setting) tree keeps has = changed_has path setting tree keeps has
    action_has path (add replace kind setting) tree keeps has = All-push E (tree_without same path tree) _ (All-filter _ E tree has) keeps
    action_has path (copy replace from from_rev setting) tree keeps has =
        All-append E (tree_without same path tree) _ (All-filter _ E tree has)
        (changed_has path setting _ keeps.1 (All-filter_map (entry_of_copy same from from_rev path) E (tree_of trees from_rev)
        (All-weaker E _ keeps.0 (tree_of trees from_rev) (all from_rev))))

    records_have : (tree : Tree C M) (records : List (Record C M))
        → All R records → All E tree → All E (fold (tree_after_record same trees) tree records)
    records_have tree [] each has = has
    records_have tree (r ∷ records) each has =
        records_have (tree_after_record same trees tree r) records (All-tail R r records each)
        (action_has r.path r.action tree (kept.action r (All-head R r records each)) has)

  carried_has : (rev : ℕ) (tree : Tree C M) → All E tree → All E (tree_from_revision rev tree)
  carried_has rev tree has =
      All-map E _ tree (All-weaker E (λ each. E (each.0, entry_from each.0 rev each.1)) (kept.carried rev) tree has)

  opening_has : (trees : List (Tree C M)) → ((rev : ℕ) → All E (tree_of trees rev)) → All E (start_tree trees)
  unfolding start_tree
  opening_has [] all = kept.first
  opening_has (tree ∷ trees) all = carried_has (length trees) (tree_of (tree ∷ trees) (length trees)) (all (length trees))

  revisions_have : (trees : List (Tree C M)) (history : History C M) → All (All R) history
      → ((rev : ℕ) → All E (tree_of trees rev)) → (rev : ℕ) → All E (tree_of (fold (with_revision same) trees history) rev)
  revisions_have trees [] each all = all
  revisions_have trees (records ∷ history) each all =
      let last = records_have trees all (start_tree trees) records (All-head (All R) records history each) (opening_has trees all) in
      revisions_have (with_revision same trees records) history (All-tail (All R) records history each)
      (each_tree_push (λ rev tree. All E tree) trees (end_tree same trees records) (λ rev. All-nil E) all last)

  -- so each entry of each tree has it
  trees_have : (history : History C M) → All (All R) history → (rev : ℕ) → All E (tree_of (trees_of same history) rev)
  unfolding trees_of
  trees_have history each = revisions_have [] history each (λ rev. All-nil E)

  module _ (is : IsSame same) where
    found_has : (tree : Tree C M) (path : List C) (entry : Entry C M)
        → All E tree → entry_at same tree path ≡ Some entry → E (path, entry)
    unfolding entry_at
    found_has [] path entry has found = absurd (none-some entry found)
    found_has (each ∷ tree) path entry has found =
        by (same_path same each.0 path) refl found (All-head E each tree has) (found_has tree path entry (All-tail E each tree has))
      where
        by : (b : Bool) → same_path same each.0 path ≡ b
            → (if b then Some each.1 else entry_at same tree path) ≡ Some entry → E each
            → (entry_at same tree path ≡ Some entry → E (path, entry)) → E (path, entry)
        by true at found here later =
            subst (λ e. E (path, e)) (same_Some each.1 entry found)
            (subst (λ p. E (p, each.1)) ((same_path-is is each.0 path).0 at) here)
        by false at found here later = later found

    -- what stands at a path has it
    pub entry_at-has : (history : History C M) → All (All R) history → (path : List C) (rev : ℕ) (entry : Entry C M)
        → entry_at same (tree_of (trees_of same history) rev) path ≡ Some entry → E (path, entry)
    entry_at-has history each path rev entry found =
        found_has (tree_of (trees_of same history) rev) path entry (trees_have history each rev) found

-- ---- the history of a dump

-- what holds of each item holds of each in its group
All-records_by_revision : {X : Type 0} (P : X → Type 0) (counts : List ℕ) (items : List X)
    → All P items → All (All P) (records_by_revision counts items)
All-records_by_revision P [] items each = All-nil (All P)
All-records_by_revision P (count ∷ counts) items each =
    All-cons (All P) (take count items) (records_by_revision counts (drop count items)) (All-take P count items each)
    (All-records_by_revision P counts (drop count items) (All-drop P count items each))

-- what follows of each record of a dump holds of each record of its history
pub history_has : (dump : DumpValue) → IsDump dump → (P : Record NameId ValueId → Type 0)
    → ((each : NodeRecord) → IsRecordOf dump each → P (record_view each)) → All (All P) (history_view dump)
history_has dump is P follows =
    All-records_by_revision P dump.counts (map record_view dump.records)
    (All-map P record_view dump.records
    (All-weaker (IsRecordOf dump) (λ each. P (record_view each)) follows dump.records is.records))
