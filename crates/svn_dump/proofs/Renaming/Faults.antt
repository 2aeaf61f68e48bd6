-- A renamed history has the same faults.
use Rattle.svn_dump.proofs.Common.{◌≡◌, ℕ, ◌+◌, Bool, true, false, if◌then◌else◌, List, [], ◌∷◌, map, length, refl, ap, ◌∙◌, arith, length-map, option_or, parent_of, Action, delete, change, add, copy, Record, History, rename_action, rename_record, rename_history, Tree, Entry, entry_at, is_there, tree_of, tree_after_record, start_tree, with_revision}
use Rattle.std.proofs.Common.{Option, None, Some, option_map}
use Rattle.svn_dump.specs.Fault.{no_source, is_dir, has_parent, fault_if_missing, fault_of_new_path, fault_of_target, fault_of_source, fault_of, first_fault_in, first_fault_from, first_fault}
use Rattle.svn_dump.proofs.Renaming.Paths.{KeepsSame, parent_of-rename}
use Rattle.svn_dump.proofs.Renaming.Trees.{rename_entry, rename_tree, tree_of-rename, start_tree-rename, entry_at-rename, is_there-rename, apply-rename, with_revision-rename}

module _ {C D M N : Type 0} (name : C → D) (text : M → N) (sameC : C → C → Bool) (sameD : D → D → Bool) (alike : KeepsSame name sameC sameD) where
  is_dir-rename : (o : Option (Entry C M)) → is_dir (option_map (rename_entry name text) o) ≡ is_dir o
  is_dir-rename None = refl
  is_dir-rename (Some e) = refl

  -- the parent is a directory where it was one
  pub has_parent-rename : (tree : Tree C M) (path : List C)
      → has_parent sameD (rename_tree name text tree) (map name path) ≡ has_parent sameC tree path
  has_parent-rename tree path = ap parent_is_dir (parent_of-rename name path) ∙ of_parent (parent_of path)
    where
      parent_is_dir : Option (List D) → Bool
      parent_is_dir o = elim o [ None ↦ false | Some above ↦ is_dir (entry_at sameD (rename_tree name text tree) above) ]

      of_parent : (o : Option (List C))
          → parent_is_dir (option_map (map name) o) ≡ elim o [ None ↦ false | Some above ↦ is_dir (entry_at sameC tree above) ]
      of_parent None = refl
      of_parent (Some above) = ap is_dir (entry_at-rename name text sameC sameD alike tree above) ∙ is_dir-rename (entry_at sameC tree above)

  -- a path is missing where it was
  pub fault_if_missing-rename : (tree : Tree C M) (path : List C)
      → fault_if_missing sameD (rename_tree name text tree) (map name path) ≡ fault_if_missing sameC tree path
  fault_if_missing-rename tree path = grind (arith, is_there-rename name text sameC sameD alike tree path)

  -- a place has the fault that it had
  pub fault_of_new_path-rename : (tree : Tree C M) (path : List C)
      → fault_of_new_path sameD (rename_tree name text tree) (map name path) ≡ fault_of_new_path sameC tree path
  fault_of_new_path-rename tree path = grind (arith, is_there-rename name text sameC sameD alike tree path, has_parent-rename tree path)

  -- so has a target
  pub fault_of_target-rename : (tree : Tree C M) (replace : Bool) (path : List C)
      → fault_of_target sameD (rename_tree name text tree) replace (map name path) ≡ fault_of_target sameC tree replace path
  fault_of_target-rename tree true path = fault_if_missing-rename tree path
  fault_of_target-rename tree false path = fault_of_new_path-rename tree path

  -- and a source of a copy
  pub fault_of_source-rename : (trees : List (Tree C M)) (from : List C) (from_rev : ℕ)
      → fault_of_source sameD (map (rename_tree name text) trees) (map name from) from_rev ≡ fault_of_source sameC trees from from_rev
  fault_of_source-rename trees from from_rev =
      let fault_unless = λ (there : Bool). if there then None else Some no_source in
      ap (λ tree. fault_unless (is_there sameD tree (map name from))) (tree_of-rename name text trees from_rev)
      ∙ ap fault_unless (is_there-rename name text sameC sameD alike (tree_of trees from_rev) from)

  -- a record has the fault that it had
  pub fault_of-rename : (trees : List (Tree C M)) (tree : Tree C M) (path : List C) (action : Action C M)
      → fault_of sameD (map (rename_tree name text) trees) (rename_tree name text tree) (map name path) (rename_action name text action)
      ≡ fault_of sameC trees tree path action
  unfolding fault_of
  fault_of-rename trees tree path delete = fault_if_missing-rename tree path
  fault_of-rename trees tree path (change setting) = fault_if_missing-rename tree path
  fault_of-rename trees tree path (add replace kind setting) = fault_of_target-rename tree replace path
  fault_of-rename trees tree path (copy replace from from_rev setting) =
      λ i. option_or (fault_of_target-rename tree replace path i) (fault_of_source-rename trees from from_rev i)

  -- the first fault of a revision stays
  pub first_fault_in-rename : (trees : List (Tree C M)) (number : ℕ) (tree : Tree C M) (records : List (Record C M))
      → first_fault_in sameD (map (rename_tree name text) trees) number (rename_tree name text tree) (map (rename_record name text) records)
      ≡ first_fault_in sameC trees number tree records
  unfolding first_fault_in
  first_fault_in-rename trees number tree [] = refl
  first_fault_in-rename trees number tree (each ∷ records) =
      let later = λ (t : Tree D N). first_fault_in sameD (map (rename_tree name text) trees) (number + 1) t (map (rename_record name text) records) in
      (λ i. elim (fault_of-rename trees tree each.path each.action i) [
        | None ↦ later (apply-rename name text sameC sameD alike trees tree each i)
        | Some fault ↦ Some (number, fault)
      ])
      ∙ (λ i. elim (fault_of sameC trees tree each.path each.action) [
        | None ↦ first_fault_in-rename trees (number + 1) (tree_after_record sameC trees tree each) records i
        | Some fault ↦ Some (number, fault)
      ])

  -- so does that of the revisions after some trees
  pub first_fault_from-rename : (trees : List (Tree C M)) (number : ℕ) (history : History C M)
      → first_fault_from sameD (map (rename_tree name text) trees) number (rename_history name text history)
      ≡ first_fault_from sameC trees number history
  unfolding first_fault_from
  first_fault_from-rename trees number [] = refl
  first_fault_from-rename trees number (records ∷ history) =
      let next = with_revision-rename name text sameC sameD alike trees records in
      let count = length-map records (rename_record name text) in
      (λ i. option_or
      (first_fault_in sameD (map (rename_tree name text) trees) number (start_tree-rename name text trees i) (map (rename_record name text) records))
      (first_fault_from sameD (next i) (number + count i) (rename_history name text history)))
      ∙ (λ i. option_or
      (first_fault_in-rename trees number (start_tree trees) records i)
      (first_fault_from-rename (with_revision sameC trees records) (number + length records) history i))

  -- and that of a history
  pub first_fault-rename : (history : History C M) → first_fault sameD (rename_history name text history) ≡ first_fault sameC history
  first_fault-rename history = first_fault_from-rename [] 1 history
