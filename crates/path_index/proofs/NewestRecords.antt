-- The newest of the records that set the origin of a path, found along the paths above it.
use Rattle.path_index.proofs.Common.{◌≡◌, ℕ, ◌+◌, ◌<◌, ◌≤◌, ◌⊎◌, List, length, take, Option, None, Some, inl, inr, refl, sym, ap, ◌∙◌, arith, cases_lt, take_all, NameId, node_of, newer_of, HasNumber, IsNewestBelow, HasEntryOf, SetsAt, RecordsByPath}
use Rattle.path_index.proofs.EntriesOfPaths.{HasNumber-HasEntryOf}
use Rattle.path_index.proofs.NodesOfPaths.{node_of-take_none}
use Rattle.path_index.proofs.NumbersOfNodes.{IsNewestBelow-newer, IsNewestBelow-same}

module _ (by_path : RecordsByPath) (path : List NameId) (count : ℕ) where
  -- by the numbers the record of the index copies to one of the first so many paths above the path
  abbrev pub IsCopiedAt : ℕ → ℕ → Type 0
  IsCopiedAt most index = (n : ℕ) × (n ≤ most) × HasEntryOf by_path.nodes (take n path) index by_path.copied

  -- at first
  pub IsNewestBelow-root : (newest : Option ℕ) → IsNewestBelow count (HasNumber by_path.copied 0) newest → IsNewestBelow count (IsCopiedAt 0) newest
  IsNewestBelow-root newest is =
      IsNewestBelow-same count (HasNumber by_path.copied 0) (IsCopiedAt 0)
      (λ index below within. (0, omega arith, record { node = 0; found = refl; within = within }))
      (λ index below (n, few, has).
      let none : n ≡ 0 = omega arith in
      HasNumber-HasEntryOf refl (rw none at has))
      newest is

  module _ (most : ℕ) (newest : Option ℕ) (so_far : IsNewestBelow count (IsCopiedAt most) newest) where
    -- one path more
    pub IsNewestBelow-next : (node : ℕ) (other : Option ℕ) → node_of by_path.nodes (take (most + 1) path) ≡ Some node → IsNewestBelow count (HasNumber by_path.copied node) other
        → IsNewestBelow count (IsCopiedAt (most + 1)) (newer_of newest other)
    IsNewestBelow-next node other found is =
        let Here = HasNumber by_path.copied node in
        IsNewestBelow-same count (λ index. IsCopiedAt most index ⊎ Here index) (IsCopiedAt (most + 1))
        (λ index below either. elim either [
          | inl (n, few, has) ↦ (n, omega arith, has)
          | inr within ↦ (most + 1, omega arith, record { node = node; found = found; within = within })
        ])
        (λ index below (n, few, has). elim (cases_lt most n) [
          | inl last ↦
              let same : n ≡ most + 1 = omega arith in
              inr (HasNumber-HasEntryOf found (rw same at has))
          | inr earlier ↦ inl (n, earlier, has)
        ])
        (newer_of newest other) (IsNewestBelow-newer count (IsCopiedAt most) Here newest other so_far is)

    -- where no record names the next path
    pub IsNewestBelow-stop : most < length path → node_of by_path.nodes (take (most + 1) path) ≡ None → IsNewestBelow count (SetsAt by_path path) newest
    IsNewestBelow-stop short none =
        IsNewestBelow-same count (IsCopiedAt most) (SetsAt by_path path)
        (λ index below (n, few, has). inl (n, has))
        (λ index below sets. elim sets [
          | inl (n, has) ↦ elim (cases_lt most n) [
            | inl past ↦ absurd (let never : None ≡ Some has.node = sym (node_of-take_none by_path.nodes path (most + 1) n (omega arith) none) ∙ has.found in cc)
            | inr within ↦ (n, within, has)
          ]
          | inr has ↦ absurd (
              let whole = node_of-take_none by_path.nodes path (most + 1) (length path) (omega arith) none in
              let never : None ≡ Some has.node = sym whole ∙ ap (node_of by_path.nodes) (take_all (length path) path (omega arith)) ∙ has.found in cc)
        ])
        newest so_far

    -- at the path itself
    pub IsNewestBelow-end : length path ≤ most → (node : ℕ) (other : Option ℕ) → node_of by_path.nodes path ≡ Some node → IsNewestBelow count (HasNumber by_path.added node) other
        → IsNewestBelow count (SetsAt by_path path) (newer_of newest other)
    IsNewestBelow-end long node other found is =
        let Here = HasNumber by_path.added node in
        IsNewestBelow-same count (λ index. IsCopiedAt most index ⊎ Here index) (SetsAt by_path path)
        (λ index below either. elim either [
          | inl (n, few, has) ↦ inl (n, has)
          | inr within ↦ inr (record { node = node; found = found; within = within })
        ])
        (λ index below sets. elim sets [
          | inl (n, has) ↦ elim (cases_lt most n) [
            | inl past ↦
                let same : take n path ≡ take most path = take_all n path (omega arith) ∙ sym (take_all most path long) in
                inl (most, omega arith, rw same at has)
            | inr within ↦ inl (n, within, has)
          ]
          | inr has ↦ inr (HasNumber-HasEntryOf found has)
        ])
        (newer_of newest other) (IsNewestBelow-newer count (IsCopiedAt most) Here newest other so_far is)
