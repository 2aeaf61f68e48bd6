-- The faults of a record in the tree before it: what a lawful history does not hold.
use Rattle.std.specs.Prelude.{ℕ, ◌+◌, Bool, true, false, List, [], ◌∷◌, Option, Some, None, length, if◌then◌else◌}
use Rattle.std.specs.Option.{option_or}
use Rattle.svn_path.specs.Below.{parent_of}
use Rattle.svn_dump.specs.History.{Action, delete, change, add, copy, Record, History}
use Rattle.svn_dump.specs.Tree.{Tree, Entry, entry_at, is_there, tree_of, tree_after_record, start_tree, with_revision}
use Rattle.svn_dump.specs.declared.record.Kind.TheVariants.{File, Dir}

pub data Fault : Type 0 where
  missing : Fault
  exists : Fault
  no_parent : Fault
  no_source : Fault

abbrev pub is_dir : {C M : Type 0} → Option (Entry C M) → Bool
is_dir None = false
is_dir (Some entry) = elim entry.kind [ File ↦ false | Dir ↦ true ]

abbrev pub has_parent : {C M : Type 0} → (C → C → Bool) → Tree C M → List C → Bool
has_parent same tree path = elim (parent_of path) [ None ↦ false | Some above ↦ is_dir (entry_at same tree above) ]

-- the path has to be there
abbrev pub fault_if_missing : {C M : Type 0} → (C → C → Bool) → Tree C M → List C → Option Fault
fault_if_missing same tree path = if is_there same tree path then None else Some missing

-- the path must not be there, and its parent has to be a directory
abbrev pub fault_of_new_path : {C M : Type 0} → (C → C → Bool) → Tree C M → List C → Option Fault
fault_of_new_path same tree path =
    if is_there same tree path then Some exists else (if has_parent same tree path then None else Some no_parent)

-- what an addition needs of its path; one that replaces needs the path to be there
abbrev pub fault_of_target : {C M : Type 0} → (C → C → Bool) → Tree C M → Bool → List C → Option Fault
fault_of_target same tree replace path = if replace then fault_if_missing same tree path else fault_of_new_path same tree path

-- the source of a copy has to be there in its revision
abbrev pub fault_of_source : {C M : Type 0} → (C → C → Bool) → List (Tree C M) → List C → ℕ → Option Fault
fault_of_source same trees from from_rev = if is_there same (tree_of trees from_rev) from then None else Some no_source

-- the first fault of an action at a path
unfoldable pub fault_of : {C M : Type 0} → (C → C → Bool) → List (Tree C M) → Tree C M → List C → Action C M → Option Fault
fault_of same trees tree path delete = fault_if_missing same tree path
fault_of same trees tree path (change setting) = fault_if_missing same tree path
fault_of same trees tree path (add replace kind setting) = fault_of_target same tree replace path
fault_of same trees tree path (copy replace from from_rev setting) =
    option_or (fault_of_target same tree replace path) (fault_of_source same trees from from_rev)

-- the first faulty record of a revision, given the number of its first record, with the first of its faults
unfoldable pub first_fault_in : {C M : Type 0} → (C → C → Bool) → List (Tree C M) → ℕ → Tree C M → List (Record C M) → Option (ℕ × Fault)
first_fault_in same trees number tree [] = None
first_fault_in same trees number tree (each ∷ records) =
    elim (fault_of same trees tree each.path each.action) [
      | None ↦ first_fault_in same trees (number + 1) (tree_after_record same trees tree each) records
      | Some fault ↦ Some (number, fault)
    ]

-- the first faulty record of the revisions that follow these trees
unfoldable pub first_fault_from : {C M : Type 0} → (C → C → Bool) → List (Tree C M) → ℕ → History C M → Option (ℕ × Fault)
first_fault_from same trees number [] = None
first_fault_from same trees number (records ∷ history) =
    option_or (first_fault_in same trees number (start_tree trees) records)
    (first_fault_from same (with_revision same trees records) (number + length records) history)

-- the first faulty record of a history, records numbered from 1; a lawful history has none
abbrev pub first_fault : {C M : Type 0} → (C → C → Bool) → History C M → Option (ℕ × Fault)
first_fault same history = first_fault_from same [] 1 history
