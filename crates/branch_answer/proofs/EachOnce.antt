-- A tree lists each path once: what it lists of a path is what stands there.
use Rattle.std.proofs.Common.{◌≡◌, ℕ, Bool, true, false, not, inl, inr, if◌then◌else◌, List, [], ◌∷◌, ◌++◌, Option, None, Some, All, IfSome, is_some, option_map, filter_map, fold, length, get_or, refl, sym, ap, subst, ◌∙◌}
use Rattle.std.proofs.lemmas.Bool.{both_ways, cases_Bool}
use Rattle.std.proofs.lemmas.List.Elements.{All-append, All-cons, All-filter, All-map, All-nil, All-weaker, filter_passes}
use Rattle.std.proofs.lemmas.Option.{none-some}
use Rattle.svn_path.proofs.Belows.{IsSame, IsSame-same_path, below-Some, below-itself, same_path-is}
use Rattle.svn_path.specs.Below.{below, is_below, same_path}
use Rattle.svn_dump.proofs.Revisions.{each_tree_push}
use Rattle.svn_dump.proofs.Trees.{entry_at-append, entry_at-changed, entry_at-filter, entry_at-moved_apart, entry_at-moved_under, entry_at-tree_from_revision, entry_at-without, entry_from, settled_entry}
use Rattle.svn_dump.specs.History.{Action, History, Record, Setting, add, change, copy, delete}
use Rattle.svn_dump.specs.Tree.{Entry, Tree, end_tree, entry_of_copy, first_tree, tree_after_record, tree_from_revision, tree_of, tree_with_mergeinfo, tree_without, with_revision}
unfoldable use Rattle.svn_dump.specs.Tree.{entry_at, start_tree, tree_after_action, trees_of}
use Rattle.query_answer.proofs.TreeEntries.{All-filter_map}

-- it stands at its path in the tree
abbrev pub StandsIn : {C M : Type 0} → (C → C → Bool) → Tree C M → List C × Entry C M → Type 0
StandsIn same tree each = entry_at same tree each.0 ≡ Some each.1

abbrev pub AllStand : {C M : Type 0} → (C → C → Bool) → Tree C M → Type 0
AllStand same tree = All (StandsIn same tree) tree

none_from : {X : Type 0} (o : Option X) → is_some o ≡ false → o ≡ None
none_from None none = refl
none_from (Some x) none = absurd (both_ways true none refl)

module _ {C M : Type 0} (same : C → C → Bool) (is : IsSame same) where
  without_stand : (path : List C) (tree : Tree C M) → AllStand same tree → AllStand same (tree_without same path tree)
  without_stand path tree stand k d within =
      let test = λ (e : List C × Entry C M). not (is_below same path e.0) in
      let each = get_or (tree_without same path tree) k d in
      entry_at-filter same is (λ p. not (is_below same path p)) tree each.0
      ∙ ap (λ b. if b then entry_at same tree each.0 else None) (filter_passes test tree k d within)
      ∙ All-filter test (StandsIn same tree) tree stand k d within

  settled_stand : (path : List C) (setting : Setting M) (tree : Tree C M) → AllStand same tree → AllStand same (tree_with_mergeinfo same path setting tree)
  settled_stand path setting tree stand =
      All-map (StandsIn same (tree_with_mergeinfo same path setting tree)) _ tree
      (All-weaker (StandsIn same tree) _ (λ each at. by each at (same_path same each.0 path) refl) tree stand)
    where
      by : (each : List C × Entry C M) → StandsIn same tree each → (b : Bool) → same_path same each.0 path ≡ b
          → StandsIn same (tree_with_mergeinfo same path setting tree) (if b then (each.0, settled_entry setting each.1) else each)
      by each at true here =
          entry_at-changed same is path setting tree each.0
          ∙ ap (λ b. if b then option_map (settled_entry setting) (entry_at same tree each.0) else entry_at same tree each.0) here
          ∙ ap (option_map (settled_entry setting)) at
      by each at false other =
          entry_at-changed same is path setting tree each.0
          ∙ ap (λ b. if b then option_map (settled_entry setting) (entry_at same tree each.0) else entry_at same tree each.0) other
          ∙ at

  moved_stand : (from : List C) (from_rev : ℕ) (path : List C) (source : Tree C M) → AllStand same source
      → AllStand same (filter_map (entry_of_copy same from from_rev path) source)
  moved_stand from from_rev path source stand =
      All-filter_map (entry_of_copy same from from_rev path) (StandsIn same moved) source
      (All-weaker (StandsIn same source) (λ each. IfSome {T = List C × Entry C M} (entry_of_copy same from from_rev path each) (StandsIn same moved))
      (λ each at. by each at (below same from each.0) refl) source stand)
    where
      moved : Tree C M
      moved = filter_map (entry_of_copy same from from_rev path) source

      by : (each : List C × Entry C M) → StandsIn same source each → (b : Option (List C)) → below same from each.0 ≡ b
          → IfSome {T = List C × Entry C M} (option_map (λ rest. (path ++ rest, entry_from each.0 from_rev each.1)) b) (StandsIn same moved)
      by each at None left = tt
      by each at (Some rest) left =
          let whole : each.0 ≡ from ++ rest = (below-Some is from each.0 rest).0 left in
          entry_at-moved_under same is from from_rev path source (path ++ rest) rest ((below-Some is path (path ++ rest) rest).1 refl)
          ∙ ap (λ p. option_map (entry_from p from_rev) (entry_at same source p)) (sym whole)
          ∙ ap (option_map (entry_from each.0 from_rev)) at

  -- a tree with a path taken out, and what has nothing but that path and what is below it
  joined_stand : (path : List C) (tree more : Tree C M) → AllStand same tree → AllStand same more
      → ((at : List C) → is_below same path at ≡ false → entry_at same more at ≡ None) → AllStand same (tree_without same path tree ++ more)
  joined_stand path tree more stand all apart =
      All-append (StandsIn same whole) front more
      (All-weaker (StandsIn same front) (StandsIn same whole) (λ each at. rw (entry_at-append same front more each.0, at) refl) front (without_stand path tree stand))
      (All-weaker (StandsIn same more) (StandsIn same whole) by more all)
    where
      front : Tree C M
      front = tree_without same path tree

      whole : Tree C M
      whole = front ++ more

      by : (each : List C × Entry C M) → StandsIn same more each → StandsIn same whole each
      by each at = elim (cases_Bool (is_below same path each.0)) [
        | inl under ↦
            let gone : entry_at same front each.0 ≡ None =
            entry_at-without same is path tree each.0 ∙ ap (λ b. if b then None else entry_at same tree each.0) under in
            rw (entry_at-append same front more each.0, gone) at
        | inr other ↦ absurd (none-some each.1 (sym (apart each.0 other) ∙ at))
      ]

  added_stand : (path : List C) (entry : Entry C M) (tree : Tree C M) → AllStand same tree → AllStand same (tree_without same path tree ++ (path, entry) ∷ [])
  unfolding entry_at
  added_stand path entry tree stand =
      joined_stand path tree ((path, entry) ∷ []) stand
      (All-cons (StandsIn same ((path, entry) ∷ [])) (path, entry) []
      (ap (λ b. if b then Some entry else None) ((IsSame-same_path is).itself path)) (All-nil (StandsIn same ((path, entry) ∷ []))))
      (λ at other. elim (cases_Bool (same_path same path at)) [
        | inl here ↦
            let under = subst (λ p. is_below same path p ≡ true) ((same_path-is is path at).0 here) (ap is_some (below-itself is path)) in
            absurd (both_ways _ other under)
        | inr apart ↦ ap (λ b. if b then Some entry else None) apart
      ])

  copied_stand : (from : List C) (from_rev : ℕ) (path : List C) (setting : Setting M) (source tree : Tree C M) → AllStand same source → AllStand same tree
      → AllStand same (tree_without same path tree ++ tree_with_mergeinfo same path setting (filter_map (entry_of_copy same from from_rev path) source))
  copied_stand from from_rev path setting source tree of_source stand =
      joined_stand path tree (tree_with_mergeinfo same path setting moved) stand (settled_stand path setting moved (moved_stand from from_rev path source of_source))
      (λ at other.
      entry_at-changed same is path setting moved at
      ∙ ap (λ o. if same_path same at path then option_map (settled_entry setting) o else o)
      (entry_at-moved_apart same is from from_rev path source at (none_from (below same path at) other))
      ∙ none_both (same_path same at path))
    where
      moved : Tree C M
      moved = filter_map (entry_of_copy same from from_rev path) source

      none_both : (b : Bool) → (if b then option_map (settled_entry {C = C} {M = M} setting) None else None) ≡ None
      none_both true = refl
      none_both false = refl

  -- ---- records and revisions

  module _ (trees : List (Tree C M)) (all : (rev : ℕ) → AllStand same (tree_of trees rev)) where
    action_stand : (path : List C) (action : Action C M) (tree : Tree C M) → AllStand same tree → AllStand same (tree_after_action same trees path action tree)
    unfolding tree_after_action
    action_stand path delete tree stand = without_stand path tree stand
    action_stand path (change setting) tree stand = settled_stand path setting tree stand
    action_stand path (add replace kind setting) tree stand = added_stand path _ tree stand
    action_stand path (copy replace from from_rev setting) tree stand =
        copied_stand from from_rev path setting (tree_of trees from_rev) tree (all from_rev) stand

    records_stand : (tree : Tree C M) (records : List (Record C M)) → AllStand same tree → AllStand same (fold (tree_after_record same trees) tree records)
    records_stand tree [] stand = stand
    records_stand tree (one ∷ records) stand =
        records_stand (tree_after_record same trees tree one) records (action_stand one.path one.action tree stand)

  carried_stand : (rev : ℕ) (tree : Tree C M) → AllStand same tree → AllStand same (tree_from_revision rev tree)
  carried_stand rev tree stand =
      All-map (StandsIn same (tree_from_revision rev tree)) _ tree
      (All-weaker (StandsIn same tree) _
      (λ each at. entry_at-tree_from_revision same is rev tree each.0 ∙ ap (option_map (entry_from each.0 rev)) at) tree stand)

  opening_stand : (trees : List (Tree C M)) → ((rev : ℕ) → AllStand same (tree_of trees rev)) → AllStand same (start_tree trees)
  unfolding start_tree entry_at
  opening_stand [] all = All-cons (StandsIn same first_tree) _ [] refl (All-nil (StandsIn same first_tree))
  opening_stand (tree ∷ trees) all = carried_stand (length trees) (tree_of (tree ∷ trees) (length trees)) (all (length trees))

  none_stand : AllStand {C = C} {M = M} same []
  none_stand = All-nil (StandsIn same [])

  revisions_stand : (trees : List (Tree C M)) (history : History C M) → ((rev : ℕ) → AllStand same (tree_of trees rev))
      → (rev : ℕ) → AllStand same (tree_of (fold (with_revision same) trees history) rev)
  revisions_stand trees [] all = all
  revisions_stand trees (records ∷ history) all =
      let last = records_stand trees all (start_tree trees) records (opening_stand trees all) in
      revisions_stand (with_revision same trees records) history
      (each_tree_push (λ rev tree. AllStand same tree) trees (end_tree same trees records) (λ rev. none_stand) all last)

  -- so it is in the trees of every history
  pub AllStand-trees_of : (history : History C M) (rev : ℕ) → AllStand same (tree_of (trees_of same history) rev)
  unfolding trees_of
  AllStand-trees_of history rev = revisions_stand [] history (λ rev. none_stand) rev
