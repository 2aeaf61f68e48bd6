-- A tree of a lawful history that has a path has the paths above it.
use Rattle.std.proofs.Common.{◌≡◌, ◌⊎◌, ℕ, ◌+◌, Bool, true, false, inl, inr, if◌then◌else◌, List, [], ◌∷◌, ◌++◌, Option, None, Some, is_some, option_map, fold, length, refl, sym, ap, subst, ◌∙◌, append-nil, append_assoc}
use Rattle.std.proofs.lemmas.Bool.{both_ways, cases_Bool}
use Rattle.std.proofs.lemmas.Option.{none-some}
use Rattle.std.specs.Option.{option_or}
use Rattle.svn_path.proofs.Belows.{IsSame, below-Some, parent_of-push}
use Rattle.svn_path.specs.Below.{below, same_path}
use Rattle.svn_dump.proofs.Faults.{fault_of-add, fault_of-change, fault_of-copy, fault_of-delete}
use Rattle.svn_dump.proofs.Revisions.{each_tree_push}
use Rattle.svn_dump.proofs.Trees.{added_entry, entry_at-elsewhere, entry_at-first_tree, entry_at-nil, entry_at-tree_from_revision, entry_at-under, entry_from, entry_left, settled_entry_at}
use Rattle.svn_dump.specs.Fault.{Fault, exists, fault_if_missing, fault_of_source, fault_of_target, first_fault, has_parent, is_dir, missing, no_parent}
unfoldable use Rattle.svn_dump.specs.Fault.{fault_of, first_fault_from, first_fault_in}
use Rattle.svn_dump.specs.History.{Action, History, Record, add, change, copy, delete}
use Rattle.svn_dump.specs.Tree.{Entry, Tree, end_tree, entry_at, first_tree, is_there, tree_after_action, tree_after_record, tree_from_revision, tree_of, with_revision}
unfoldable use Rattle.svn_dump.specs.Tree.{start_tree, trees_of}
use Rattle.svn_dump.specs.declared.record.Kind.TheVariants.{Dir}

-- what is left below a front of a path with one component more, if nothing is left of the path
below-push : {C : Type 0} (same : C → C → Bool) → IsSame same → (front path : List C) (last : C) → below same front path ≡ None
    → (below same front (path ++ last ∷ []) ≡ None) ⊎ (front ≡ path ++ last ∷ [])
below-push same is [] path last none = absurd (none-some path (sym none))
below-push same is (f ∷ []) [] last none = elim (cases_Bool (same f last)) [
  | inl here ↦ inr (ap (λ each. each ∷ []) (is.true_is f last here))
  | inr other ↦ inl (ap (λ b. if b then Some [] else None) other)
]
below-push same is (f ∷ g ∷ front) [] last none = elim (cases_Bool (same f last)) [
  | inl here ↦ inl (ap (λ b. if b then None else None) here)
  | inr other ↦ inl (ap (λ b. if b then None else None) other)
]
below-push same is (f ∷ front) (c ∷ path) last none = elim (cases_Bool (same f c)) [
  | inl here ↦ elim (below-push same is front path last (rw here at none)) [
    | inl more ↦ inl (rw here more)
    | inr ends ↦ inr (ap (λ each. each ∷ front) (is.true_is f c here) ∙ ap (λ more. c ∷ more) ends)
  ]
  | inr other ↦ inl (ap (λ b. if b then below same front (path ++ last ∷ []) else None) other)
]

is_some-option_map : {X Y : Type 0} (f : X → Y) (o : Option X) → is_some (option_map f o) ≡ is_some o
is_some-option_map f None = refl
is_some-option_map f (Some x) = refl

-- the root of the first tree
abbrev root_entry : {C M : Type 0} → Entry C M
root_entry = record { kind = Dir; mergeinfo = None; origin = None }

not_root : {C : Type 0} (same : C → C → Bool) (path : List C) (last : C) → same_path same [] (path ++ last ∷ []) ≡ false
not_root same [] last = refl
not_root same (c ∷ path) last = refl

none_first : {X : Type 0} (one other : Option X) → option_or one other ≡ None → one ≡ None
none_first None other none = refl
none_first (Some x) other none = absurd (none-some x (sym none))

module _ {C M : Type 0} (same : C → C → Bool) where
  -- with each path it has the one above
  pub record HasParents (tree : Tree C M) : Type 0 where
    pub above : (path : List C) (last : C) → is_there same tree (path ++ last ∷ []) ≡ true → is_there same tree path ≡ true

  -- so it has all above
  pub is_there-front : (tree : Tree C M) → HasParents tree → (front rest : List C) → is_there same tree (front ++ rest) ≡ true → is_there same tree front ≡ true
  is_there-front tree parents front [] there = subst (λ path. is_there same tree path ≡ true) (append-nil front) there
  is_there-front tree parents front (c ∷ rest) there =
      parents.above front c
      (is_there-front tree parents (front ++ c ∷ []) rest (subst (λ path. is_there same tree path ≡ true) (sym (append_assoc front (c ∷ []) rest)) there))

  module _ (is : IsSame same) where
    nothing_has : HasParents []
    nothing_has = record { above = λ path last there. absurd (both_ways true (sym there ∙ ap is_some (entry_at-nil {M = M} same (path ++ last ∷ []))) refl) }

    first_has : HasParents first_tree
    first_has = record {
      above = λ path last there.
          let none : is_there same (first_tree {C = C} {M = M}) (path ++ last ∷ []) ≡ false =
          ap is_some (entry_at-first_tree {M = M} same (path ++ last ∷ []))
          ∙ ap (λ b. is_some (if b then Some (root_entry {C = C} {M = M}) else None)) (not_root same path last) in
          absurd (both_ways _ none there);
    }

    carried_has : (rev : ℕ) (tree : Tree C M) → HasParents tree → HasParents (tree_from_revision rev tree)
    carried_has rev tree parents = record { above = λ path last there. carried path ∙ parents.above path last (sym (carried (path ++ last ∷ [])) ∙ there) }
      where
        carried : (at : List C) → is_there same (tree_from_revision rev tree) at ≡ is_there same tree at
        carried at = ap is_some (entry_at-tree_from_revision same is rev tree at) ∙ is_some-option_map (entry_from at rev) (entry_at same tree at)

    -- ---- records

    module _ (trees : List (Tree C M)) (all : (rev : ℕ) → HasParents (tree_of trees rev)) (tree : Tree C M) (parents : HasParents tree) where
      there_from_fine : (path : List C) → fault_if_missing same tree path ≡ None → is_there same tree path ≡ true
      there_from_fine path fine = elim (cases_Bool (is_there same tree path)) [
        | inl there ↦ there
        | inr none ↦ absurd (none-some missing (sym (rw none at fine)))
      ]

      dir_is_there : (o : Option (Entry C M)) → is_dir o ≡ true → is_some o ≡ true
      dir_is_there None dir = absurd (both_ways true (sym dir) refl)
      dir_is_there (Some entry) dir = refl

      above_new : (path : List C) (last : C) → (there : Bool) (parent : Bool) → has_parent same tree (path ++ last ∷ []) ≡ parent
          → (if there then Some exists else (if parent then None else Some no_parent)) ≡ None → is_there same tree path ≡ true
      above_new path last true parent has fine = absurd (none-some exists (sym fine))
      above_new path last false false has fine = absurd (none-some no_parent (sym fine))
      above_new path last false true has fine =
          dir_is_there (entry_at same tree path)
          (sym (ap (λ (above : Option (List C)). elim above [ None ↦ false | Some one ↦ is_dir (entry_at same tree one) ]) (parent_of-push path last)) ∙ has)

      above_target : (replace : Bool) (path : List C) (last : C) → fault_of_target same tree replace (path ++ last ∷ []) ≡ None → is_there same tree path ≡ true
      above_target true path last fine = parents.above path last (there_from_fine (path ++ last ∷ []) fine)
      above_target false path last fine =
          above_new path last (is_there same tree (path ++ last ∷ [])) (has_parent same tree (path ++ last ∷ [])) refl fine

      -- what is above the path of a record that is not faulty was there
      above_fine : (path : List C) (last : C) (action : Action C M) → fault_of same trees tree (path ++ last ∷ []) action ≡ None → is_there same tree path ≡ true
      above_fine path last delete fine =
          parents.above path last (there_from_fine (path ++ last ∷ []) (sym (fault_of-delete same trees tree (path ++ last ∷ [])) ∙ fine))
      above_fine path last (change setting) fine =
          parents.above path last (there_from_fine (path ++ last ∷ []) (sym (fault_of-change same trees tree (path ++ last ∷ []) setting) ∙ fine))
      above_fine path last (add replace kind setting) fine =
          above_target replace path last (sym (fault_of-add same trees tree (path ++ last ∷ []) replace kind setting) ∙ fine)
      above_fine path last (copy replace from from_rev setting) fine =
          above_target replace path last
          (none_first (fault_of_target same tree replace (path ++ last ∷ [])) (fault_of_source same trees from from_rev)
          (sym (fault_of-copy same trees tree (path ++ last ∷ []) replace from from_rev setting) ∙ fine))

      nothing_added : (kind : _) (setting : _) (rest : List C) (last : C) → is_some (added_entry {C = C} {M = M} kind setting (rest ++ last ∷ [])) ≡ false
      nothing_added kind setting [] last = refl
      nothing_added kind setting (c ∷ rest) last = refl

      -- what an action leaves below its path has what is above
      left_has : (action : Action C M) (path rest : List C) (last : C)
          → is_some (entry_left same trees action (entry_at same tree (path ++ last ∷ [])) (rest ++ last ∷ [])) ≡ true
          → is_some (entry_left same trees action (entry_at same tree path) rest) ≡ true
      left_has delete path rest last there = absurd (both_ways true (sym there) refl)
      left_has (change setting) path rest last there =
          is_some-option_map (settled_entry_at setting rest) (entry_at same tree path)
          ∙ parents.above path last (sym (is_some-option_map (settled_entry_at setting (rest ++ last ∷ [])) (entry_at same tree (path ++ last ∷ []))) ∙ there)
      left_has (add replace kind setting) path rest last there = absurd (both_ways _ (nothing_added kind setting rest last) there)
      left_has (copy replace from from_rev setting) path rest last there =
          let source = tree_of trees from_rev in
          let whole = ap (λ at. is_there same source at) (append_assoc from rest (last ∷ [])) in
          is_some-option_map (copied rest) (entry_at same source (from ++ rest))
          ∙ (all from_rev).above (from ++ rest) last
          (whole ∙ sym (is_some-option_map (copied (rest ++ last ∷ [])) (entry_at same source (from ++ (rest ++ last ∷ [])))) ∙ there)
        where
          copied : List C → Entry C M → Entry C M
          copied more e = settled_entry_at setting more (entry_from (from ++ more) from_rev e)

      action_has : (at : List C) (action : Action C M) → fault_of same trees tree at action ≡ None → HasParents (tree_after_action same trees at action tree)
      action_has at action fine = record { above = λ path last there. by path last there (below same at path) refl }
        where
          after : Tree C M
          after = tree_after_action same trees at action tree

          elsewhere : (one : List C) → below same at one ≡ None → is_there same after one ≡ is_there same tree one
          elsewhere one none = ap is_some (entry_at-elsewhere same is trees at action tree one none)

          by : (path : List C) (last : C) → is_there same after (path ++ last ∷ []) ≡ true → (left : Option (List C)) → below same at path ≡ left
              → is_there same after path ≡ true
          by path last there (Some rest) left =
              let whole : path ++ last ∷ [] ≡ at ++ (rest ++ last ∷ []) =
              ap (λ front. front ++ last ∷ []) ((below-Some is at path rest).0 left) ∙ append_assoc at rest (last ∷ []) in
              let more : below same at (path ++ last ∷ []) ≡ Some (rest ++ last ∷ []) = (below-Some is at (path ++ last ∷ []) (rest ++ last ∷ [])).1 whole in
              ap is_some (entry_at-under same is trees at action tree path rest left)
              ∙ left_has action path rest last
              (sym (ap is_some (entry_at-under same is trees at action tree (path ++ last ∷ []) (rest ++ last ∷ []) more)) ∙ there)
          by path last there None none = elim (below-push same is at path last none) [
            | inl apart ↦ elsewhere path none ∙ parents.above path last (sym (elsewhere (path ++ last ∷ []) apart) ∙ there)
            | inr here ↦ elsewhere path none ∙ above_fine path last action (subst (λ one. fault_of same trees tree one action ≡ None) here fine)
          ]

    module _ (trees : List (Tree C M)) (all : (rev : ℕ) → HasParents (tree_of trees rev)) where
      records_have : (number : ℕ) (tree : Tree C M) (records : List (Record C M)) → first_fault_in same trees number tree records ≡ None → HasParents tree
          → HasParents (fold (tree_after_record same trees) tree records)
      unfolding first_fault_in
      records_have number tree [] lawful parents = parents
      records_have number tree (one ∷ records) lawful parents =
          by (fault_of same trees tree one.path one.action) refl lawful
          (records_have (number + 1) (tree_after_record same trees tree one) records)
        where
          by : (o : Option Fault) → fault_of same trees tree one.path one.action ≡ o
              → (elim o as (λ found. Option (ℕ × Fault)) [ None ↦ first_fault_in same trees (number + 1) (tree_after_record same trees tree one) records | Some fault ↦ Some (number, fault) ]) ≡ None
              → (first_fault_in same trees (number + 1) (tree_after_record same trees tree one) records ≡ None → HasParents (tree_after_record same trees tree one)
              → HasParents (fold (tree_after_record same trees) tree (one ∷ records)))
              → HasParents (fold (tree_after_record same trees) tree (one ∷ records))
          by None fine more later = later more (action_has trees all tree parents one.path one.action fine)
          by (Some fault) at never later = absurd (none-some (number, fault) (sym never))

      opening_has : HasParents (start_tree trees)
      unfolding start_tree
      opening_has = by trees all
        where
          by : (some : List (Tree C M)) → ((rev : ℕ) → HasParents (tree_of some rev)) → HasParents (start_tree some)
          by [] each = first_has
          by (tree ∷ more) each = carried_has (length more) (tree_of (tree ∷ more) (length more)) (each (length more))

    revisions_have : (trees : List (Tree C M)) (number : ℕ) (history : History C M) → first_fault_from same trees number history ≡ None
        → ((rev : ℕ) → HasParents (tree_of trees rev)) → (rev : ℕ) → HasParents (tree_of (fold (with_revision same) trees history) rev)
    unfolding first_fault_from
    revisions_have trees number [] lawful all = all
    revisions_have trees number (records ∷ history) lawful all =
        by (first_fault_in same trees number (start_tree trees) records) refl lawful
        (revisions_have (with_revision same trees records) (number + length records) history)
      where
        by : (o : Option (ℕ × Fault)) → first_fault_in same trees number (start_tree trees) records ≡ o
            → option_or o (first_fault_from same (with_revision same trees records) (number + length records) history) ≡ None
            → (first_fault_from same (with_revision same trees records) (number + length records) history ≡ None
            → ((rev : ℕ) → HasParents (tree_of (with_revision same trees records) rev))
            → (rev : ℕ) → HasParents (tree_of (fold (with_revision same) trees (records ∷ history)) rev))
            → (rev : ℕ) → HasParents (tree_of (fold (with_revision same) trees (records ∷ history)) rev)
        by None fine more later =
            later more
            (each_tree_push (λ rev tree. HasParents tree) trees (end_tree same trees records) (λ rev. nothing_has) all
            (records_have trees all number (start_tree trees) records fine (opening_has trees all)))
        by (Some fault) at never later = absurd (none-some fault (sym never))

    -- so it is in the trees of a history without faults
    pub HasParents-trees_of : (history : History C M) → first_fault same history ≡ None → (rev : ℕ) → HasParents (tree_of (trees_of same history) rev)
    unfolding trees_of
    HasParents-trees_of history lawful rev = revisions_have [] 1 history lawful (λ each. nothing_has) rev
