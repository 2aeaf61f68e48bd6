-- The first fault of a history, one record and one revision after another.
use Rattle.svn_dump.proofs.Common.{◌≡◌, ℕ, ◌+◌, Bool, List, [], ◌∷◌, length, refl, ap, length-append, option_or, Setting, delete, change, add, copy, Record, History, Tree, tree_after_record, start_tree, with_revision, Kind}
use Rattle.std.proofs.Common.{None, Some, flat_map}
use Rattle.svn_dump.specs.Fault.{Fault, fault_if_missing, fault_of_target, fault_of_source, fault_of, first_fault_in, first_fault_from}

-- how many records a history has
abbrev pub record_count : {C M : Type 0} → History C M → ℕ
record_count history = length (flat_map (λ records. records) history)

module _ {C M : Type 0} where
  -- a revision and the ones after it
  pub record_count-cons : (records : List (Record C M)) (history : History C M) → record_count (records ∷ history) ≡ length records + record_count history
  record_count-cons records history = length-append records (flat_map (λ records. records) history)

-- ---- one record

module _ {C M : Type 0} (same : C → C → Bool) (trees : List (Tree C M)) (tree : Tree C M) (path : List C) where
  -- what is deleted has to be there
  pub fault_of-delete : fault_of same trees tree path delete ≡ fault_if_missing same tree path
  unfolding fault_of
  fault_of-delete = refl

  -- and so has what is changed
  pub fault_of-change : (setting : Setting M) → fault_of same trees tree path (change setting) ≡ fault_if_missing same tree path
  unfolding fault_of
  fault_of-change setting = refl

  -- an addition needs its target alone
  pub fault_of-add : (replace : Bool) (kind : Kind) (setting : Setting M)
      → fault_of same trees tree path (add replace kind setting) ≡ fault_of_target same tree replace path
  unfolding fault_of
  fault_of-add replace kind setting = refl

  -- a copy needs its target, and then its source
  pub fault_of-copy : (replace : Bool) (from : List C) (from_rev : ℕ) (setting : Setting M)
      → fault_of same trees tree path (copy replace from from_rev setting)
      ≡ option_or (fault_of_target same tree replace path) (fault_of_source same trees from from_rev)
  unfolding fault_of
  fault_of-copy replace from from_rev setting = refl

-- ---- the records of a revision

module _ {C M : Type 0} (same : C → C → Bool) (trees : List (Tree C M)) where
  -- no record, no fault
  pub first_fault_in-nil : (number : ℕ) (tree : Tree C M) → first_fault_in same trees number tree [] ≡ None
  unfolding first_fault_in
  first_fault_in-nil number tree = refl

  -- past a record with no fault
  pub first_fault_in_fine : (number : ℕ) (tree : Tree C M) (each : Record C M) (records : List (Record C M))
      → fault_of same trees tree each.path each.action ≡ None
      → first_fault_in same trees number tree (each ∷ records) ≡ first_fault_in same trees (number + 1) (tree_after_record same trees tree each) records
  unfolding first_fault_in
  first_fault_in_fine number tree each records fine = rw (fine, first_fault_in)

  -- at a record with a fault
  pub first_fault_in_faulty : (number : ℕ) (tree : Tree C M) (each : Record C M) (records : List (Record C M)) (fault : Fault)
      → fault_of same trees tree each.path each.action ≡ Some fault → first_fault_in same trees number tree (each ∷ records) ≡ Some (number, fault)
  unfolding first_fault_in
  first_fault_in_faulty number tree each records fault faulty = rw (faulty, first_fault_in)

-- ---- the revisions of a history

module _ {C M : Type 0} (same : C → C → Bool) where
  -- no revision, no fault
  pub first_fault_from-nil : (trees : List (Tree C M)) (number : ℕ) → first_fault_from same trees number [] ≡ None
  unfolding first_fault_from
  first_fault_from-nil trees number = refl

  -- past a revision with no fault
  pub first_fault_from_fine : (trees : List (Tree C M)) (number : ℕ) (records : List (Record C M)) (history : History C M)
      → first_fault_in same trees number (start_tree trees) records ≡ None
      → first_fault_from same trees number (records ∷ history)
      ≡ first_fault_from same (with_revision same trees records) (number + length records) history
  unfolding first_fault_from
  first_fault_from_fine trees number records history fine =
      ap (λ o. option_or o (first_fault_from same (with_revision same trees records) (number + length records) history)) fine

  -- at a revision with a fault
  pub first_fault_from_faulty : (trees : List (Tree C M)) (number : ℕ) (records : List (Record C M)) (history : History C M) (fault : ℕ × Fault)
      → first_fault_in same trees number (start_tree trees) records ≡ Some fault → first_fault_from same trees number (records ∷ history) ≡ Some fault
  unfolding first_fault_from
  first_fault_from_faulty trees number records history fault faulty =
      ap (λ o. option_or o (first_fault_from same (with_revision same trees records) (number + length records) history)) faulty
