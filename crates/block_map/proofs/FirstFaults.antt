-- The first faulty record of a history is told by the fault of each record in the tree before it.
use Rattle.block_map.proofs.Common.{◌≡◌, ℕ, zero, suc, ◌+◌, ◌-◌, ◌<◌, Bool, inl, inr, List, [], ◌∷◌, Option, None, Some, fold, length, take, sym, ap, ◌∙◌, arith, option_and_then, cases_lt, none-some, same_name, DumpValue, IsDump, history_view, Fault, fault_of, first_fault_in, first_fault_from, first_fault, History, Record, fault_of_next_record, fault_of_next_record_from, Tree, start_tree, tree_after_record, with_revision, record_count, record_count-cons, first_fault_in-nil, first_fault_in_fine, first_fault_in_faulty, first_fault_from-nil, first_fault_from_fine, first_fault_from_faulty}
use Rattle.std.specs.List.{slice_get}
use Rattle.block_map.proofs.FaultsFound.{fault_of_next_record_from-within, fault_of_next_record_from-later}
use Rattle.block_map.proofs.Standings.{record_count-history_view}

-- ---- the records of a revision

module _ {C M : Type 0} (same : C → C → Bool) (trees : List (Tree C M)) where
  -- the first fault of the record that so many others precede, where this tree stands before them
  abbrev fault_behind : Tree C M → List (Record C M) → ℕ → Option Fault
  fault_behind tree records count =
      option_and_then (λ each. fault_of same trees (fold (tree_after_record same trees) tree (take count records)) each.path each.action)
      (slice_get records count)

  -- where no record has a fault, there is no first one
  first_fault_in-none : (number : ℕ) (tree : Tree C M) (records : List (Record C M))
      → ((count : ℕ) → count < length records → fault_behind tree records count ≡ None) → first_fault_in same trees number tree records ≡ None
  first_fault_in-none number tree [] fine = first_fault_in-nil same trees number tree
  first_fault_in-none number tree (each ∷ records) fine =
      first_fault_in_fine same trees number tree each records (fine zero (omega arith))
      ∙ first_fault_in-none (number + 1) (tree_after_record same trees tree each) records (λ count within. fine (suc count) (omega arith))

  -- a faulty record with no fault before it is the first one
  first_fault_in-least : (number : ℕ) (tree : Tree C M) (records : List (Record C M)) (count : ℕ) (fault : Fault)
      → fault_behind tree records count ≡ Some fault → ((earlier : ℕ) → earlier < count → fault_behind tree records earlier ≡ None)
      → first_fault_in same trees number tree records ≡ Some (number + count, fault)
  first_fault_in-least number tree [] count fault faulty fine = absurd (none-some fault faulty)
  first_fault_in-least number tree (each ∷ records) zero fault faulty fine =
      let counted : number ≡ number + zero = omega arith in
      first_fault_in_faulty same trees number tree each records fault faulty ∙ ap (λ n. Some (n, fault)) counted
  first_fault_in-least number tree (each ∷ records) (suc count) fault faulty fine =
      let counted : number + 1 + count ≡ number + suc count = omega arith in
      first_fault_in_fine same trees number tree each records (fine zero (omega arith))
      ∙ first_fault_in-least (number + 1) (tree_after_record same trees tree each) records count fault faulty
      (λ earlier before. fine (suc earlier) (omega arith))
      ∙ ap (λ n. Some (n, fault)) counted

-- ---- the revisions of a history

module _ {C M : Type 0} (same : C → C → Bool) where
  -- the fault of a record of the later revisions, counted among them or over all
  fault_after_from_next : (trees : List (Tree C M)) (records : List (Record C M)) (history : History C M) (count : ℕ)
      → fault_of_next_record_from same (with_revision same trees records) history count
      ≡ fault_of_next_record_from same trees (records ∷ history) (length records + count)
  fault_after_from_next trees records history count =
      let counted : count ≡ length records + count - length records = omega arith in
      ap (fault_of_next_record_from same (with_revision same trees records) history) counted
      ∙ sym (fault_of_next_record_from-later same trees records history (length records + count) (omega arith))

  -- where no record of the first revision has a fault, it has no first one
  none_within : (trees : List (Tree C M)) (number : ℕ) (records : List (Record C M)) (history : History C M)
      → ((count : ℕ) → count < length records → fault_of_next_record_from same trees (records ∷ history) count ≡ None)
      → first_fault_in same trees number (start_tree trees) records ≡ None
  none_within trees number records history fine =
      first_fault_in-none same trees number (start_tree trees) records
      (λ count within. sym (fault_of_next_record_from-within same trees records history count within) ∙ fine count within)

  -- where no record has a fault, there is no first one
  first_fault_from-none : (trees : List (Tree C M)) (number : ℕ) (history : History C M)
      → ((count : ℕ) → count < record_count history → fault_of_next_record_from same trees history count ≡ None)
      → first_fault_from same trees number history ≡ None
  first_fault_from-none trees number [] fine = first_fault_from-nil same trees number
  first_fault_from-none trees number (records ∷ history) fine =
      let both = record_count-cons records history in
      first_fault_from_fine same trees number records history
      (none_within trees number records history (λ count within. fine count (omega (arith, both))))
      ∙ first_fault_from-none (with_revision same trees records) (number + length records) history
      (λ count within. fault_after_from_next trees records history count ∙ fine (length records + count) (omega (arith, both)))

  -- a faulty record with no fault before it is the first one
  first_fault_from-least : (trees : List (Tree C M)) (number : ℕ) (history : History C M) (count : ℕ) (fault : Fault)
      → fault_of_next_record_from same trees history count ≡ Some fault
      → ((earlier : ℕ) → earlier < count → fault_of_next_record_from same trees history earlier ≡ None)
      → first_fault_from same trees number history ≡ Some (number + count, fault)
  unfolding fault_of_next_record_from
  first_fault_from-least trees number [] count fault faulty fine = absurd (none-some fault faulty)
  first_fault_from-least trees number (records ∷ history) count fault faulty fine =
      elim (cases_lt count (length records)) [
        | inl here ↦
            first_fault_from_faulty same trees number records history (number + count, fault)
            (first_fault_in-least same trees number (start_tree trees) records count fault
            (sym (fault_of_next_record_from-within same trees records history count here) ∙ faulty)
            (λ earlier before. sym (fault_of_next_record_from-within same trees records history earlier (omega arith)) ∙ fine earlier before))
        | inr past ↦
            let counted : number + length records + (count - length records) ≡ number + count = omega arith in
            first_fault_from_fine same trees number records history
            (none_within trees number records history (λ earlier within. fine earlier (omega arith)))
            ∙ first_fault_from-least (with_revision same trees records) (number + length records) history (count - length records) fault
            (sym (fault_of_next_record_from-later same trees records history count past) ∙ faulty)
            (λ earlier before. fault_after_from_next trees records history earlier ∙ fine (length records + earlier) (omega arith))
            ∙ ap (λ n. Some (n, fault)) counted
      ]

  -- the first faulty record of a history is the one with a fault and none before it
  pub first_fault-least : (history : History C M) (count : ℕ) (fault : Fault) → fault_of_next_record same history count ≡ Some fault
      → ((earlier : ℕ) → earlier < count → fault_of_next_record same history earlier ≡ None) → first_fault same history ≡ Some (count + 1, fault)
  first_fault-least history count fault faulty fine =
      let counted : 1 + count ≡ count + 1 = omega arith in
      first_fault_from-least [] 1 history count fault faulty fine ∙ ap (λ n. Some (n, fault)) counted

  -- a history has none where none of its records has a fault
  pub first_fault-none : (history : History C M) → ((count : ℕ) → count < record_count history → fault_of_next_record same history count ≡ None)
      → first_fault same history ≡ None
  first_fault-none history fine = first_fault_from-none [] 1 history fine

-- ---- dumps

-- where no record of a dump has a fault, its history has no faulty one
pub first_fault_of_dump-none : (dump : DumpValue) → IsDump dump
    → ((index : ℕ) → index < length dump.records → fault_of_next_record same_name (history_view dump) index ≡ None)
    → first_fault same_name (history_view dump) ≡ None
first_fault_of_dump-none dump is fine =
    first_fault-none same_name (history_view dump) (λ index within. fine index (omega (arith, record_count-history_view dump is)))
