-- The tree after each record of a history, and the fault of each record in the tree before it. Records are counted over all
-- revisions.
use Rattle.std.specs.Prelude.{ℕ, ◌-◌, nat_le, nat_lt, Bool, List, [], ◌∷◌, Option, None, fold, length, option_and_then, slice_get, take, if◌then◌else◌}
use Rattle.svn_dump.specs.Fault.{Fault, fault_of}
use Rattle.svn_dump.specs.History.{History, Record}
use Rattle.svn_dump.specs.Tree.{Tree, start_tree, tree_after_record, with_revision}

-- the tree after the first so many records of a revision, given the trees of the revisions before
abbrev pub tree_within : {C M : Type 0} → (C → C → Bool) → List (Tree C M) → List (Record C M) → ℕ → Tree C M
tree_within same trees records count = fold (tree_after_record same trees) (start_tree trees) (take count records)

-- the tree after so many records of the revisions that follow these trees
unfoldable pub state_from : {C M : Type 0} → (C → C → Bool) → List (Tree C M) → History C M → ℕ → Tree C M
state_from same trees [] count = start_tree trees
state_from same trees (records ∷ history) count =
    if nat_le count (length records) then tree_within same trees records count
    else state_from same (with_revision same trees records) history (count - length records)

-- the tree after the first so many records of a history
abbrev pub state : {C M : Type 0} → (C → C → Bool) → History C M → ℕ → Tree C M
state same history count = state_from same [] history count

-- the first fault of a record of a revision, given how many records of the revision come before it
abbrev pub fault_within : {C M : Type 0} → (C → C → Bool) → List (Tree C M) → List (Record C M) → ℕ → Option Fault
fault_within same trees records count =
    option_and_then (λ each. fault_of same trees (tree_within same trees records count) each.path each.action) (slice_get records count)

-- the first fault of a record of the revisions after these trees, given how many of their records come before it
unfoldable pub fault_of_next_record_from : {C M : Type 0} → (C → C → Bool) → List (Tree C M) → History C M → ℕ → Option Fault
fault_of_next_record_from same trees [] count = None
fault_of_next_record_from same trees (records ∷ history) count =
    if nat_lt count (length records) then fault_within same trees records count
    else fault_of_next_record_from same (with_revision same trees records) history (count - length records)

-- the first fault of a record of a history, given how many records come before it, in the tree after those
abbrev pub fault_of_next_record : {C M : Type 0} → (C → C → Bool) → History C M → ℕ → Option Fault
fault_of_next_record same history count = fault_of_next_record_from same [] history count
