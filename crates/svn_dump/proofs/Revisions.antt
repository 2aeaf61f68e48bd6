-- The trees of a history, one revision after another.
use Rattle.svn_dump.proofs.Common.{◌≡◌, ℕ, ◌+◌, ◌-◌, ◌<◌, ◌≤◌, inl, inr, Bool, List, [], ◌∷◌, ◌++◌, fold, length, refl, sym, ap, subst, ◌∙◌, arith, cases_order, length_push, get_or_append_left, get_or_push, get_or_past, fold_push, Record, History, Tree, tree_of, first_tree, tree_from_revision, start_tree, end_tree, with_revision, trees_of}
use Rattle.std.proofs.lemmas.List.Sums.{fold-append}

-- ---- the tree of a revision

module _ {C M : Type 0} where
  -- more trees leave those of the earlier revisions
  pub tree_of-append : (trees more : List (Tree C M)) (rev : ℕ) → rev < length trees → tree_of (trees ++ more) rev ≡ tree_of trees rev
  tree_of-append trees more rev within = get_or_append_left trees more [] rev within

  -- past the last revision the tree is empty
  pub tree_of_past : (trees : List (Tree C M)) (rev : ℕ) → length trees ≤ rev → tree_of trees rev ≡ []
  tree_of_past trees rev past = get_or_past trees rev [] past

  -- one more tree is that of the next revision
  pub tree_of_push : (trees : List (Tree C M)) (tree : Tree C M) → tree_of (trees ++ tree ∷ []) (length trees) ≡ tree
  tree_of_push trees tree = get_or_push trees tree [] (length trees) refl

  -- what holds of each tree, and of one more, holds of each once that one stands at the end
  pub each_tree_push : (P : ℕ → Tree C M → Type 0) (trees : List (Tree C M)) (tree : Tree C M) → ((rev : ℕ) → P rev [])
      → ((rev : ℕ) → P rev (tree_of trees rev)) → P (length trees) tree → (rev : ℕ) → P rev (tree_of (trees ++ tree ∷ []) rev)
  each_tree_push P trees tree none each last rev =
      elim (cases_order rev (length trees)) [
        | inl here ↦ subst (λ r. P r (tree_of (trees ++ tree ∷ []) r)) (sym here) (subst (P (length trees)) (sym (tree_of_push trees tree)) last)
        | inr (inl before) ↦ subst (P rev) (sym (tree_of-append trees (tree ∷ []) rev before)) (each rev)
        | inr (inr after) ↦ subst (P rev) (sym (tree_of_past (trees ++ tree ∷ []) rev (omega (arith, length_push trees tree)))) (none rev)
      ]

  -- ---- the tree with which a revision begins

  -- revision 0 begins with the root
  pub start_tree-nil : start_tree {C = C} {M = M} [] ≡ first_tree
  unfolding start_tree
  start_tree-nil = refl

  -- a revision begins with the last tree, each path come from itself
  pub opening_push : (trees : List (Tree C M)) (tree : Tree C M) → start_tree (trees ++ tree ∷ []) ≡ tree_from_revision (length trees) tree
  unfolding start_tree
  opening_push [] tree = refl
  opening_push (t ∷ trees) tree =
      let one_more : length (trees ++ tree ∷ []) ≡ length (t ∷ trees) = omega (arith, length_push trees tree) in
      (λ i. tree_from_revision (one_more i) (tree_of ((t ∷ trees) ++ tree ∷ []) (one_more i)))
      ∙ ap (tree_from_revision (length (t ∷ trees))) (tree_of_push (t ∷ trees) tree)

  -- the tree with which the next revision begins, by the number of the last tree
  pub opening_last : (trees : List (Tree C M)) → 0 < length trees → start_tree trees ≡ tree_from_revision (length trees - 1) (tree_of trees (length trees - 1))
  unfolding start_tree
  opening_last [] some = absurd (omega arith)
  opening_last (tree ∷ trees) some =
      let last : length trees ≡ length (tree ∷ trees) - 1 = omega arith in
      λ i. tree_from_revision (last i) (tree_of (tree ∷ trees) (last i))

-- ---- one more revision

module _ {C M : Type 0} (same : C → C → Bool) where
  -- no revision, no tree
  pub trees_of-nil : trees_of {M = M} same [] ≡ []
  unfolding trees_of
  trees_of-nil = refl

  -- one more revision adds its tree
  pub trees_of_push : (history : History C M) (records : List (Record C M))
      → trees_of same (history ++ records ∷ []) ≡ with_revision same (trees_of same history) records
  unfolding trees_of
  trees_of_push history records = fold_push (with_revision same) [] history records

  -- more revisions add theirs in turn
  pub trees_of-append : (history more : History C M) → trees_of same (history ++ more) ≡ fold (with_revision same) (trees_of same history) more
  unfolding trees_of
  trees_of-append history more = fold-append (with_revision same) [] history more

  -- a revision adds one tree
  pub length-with_revision : (trees : List (Tree C M)) (records : List (Record C M)) → length (with_revision same trees records) ≡ length trees + 1
  length-with_revision trees records = length_push trees (end_tree same trees records)

  -- revisions add as many trees as they are
  pub length-revisions : (trees : List (Tree C M)) (history : History C M)
      → length (fold (with_revision same) trees history) ≡ length trees + length history
  length-revisions trees [] = omega arith
  length-revisions trees (records ∷ history) =
      omega (arith, length-revisions (with_revision same trees records) history, length-with_revision trees records)

  -- there is a tree for each revision
  pub length-trees_of : (history : History C M) → length (trees_of same history) ≡ length history
  unfolding trees_of
  length-trees_of history = omega (arith, length-revisions [] history)

  -- later revisions leave the trees of the earlier ones
  pub tree_of-revisions : (trees : List (Tree C M)) (history : History C M) (rev : ℕ) → rev < length trees
      → tree_of (fold (with_revision same) trees history) rev ≡ tree_of trees rev
  tree_of-revisions trees [] rev within = refl
  tree_of-revisions trees (records ∷ history) rev within =
      let next = with_revision same trees records in
      tree_of-revisions next history rev (omega (arith, length-with_revision trees records))
      ∙ tree_of-append trees (end_tree same trees records ∷ []) rev within

  -- a revision of a front has the same tree in the whole history
  pub tree_of-front : (history more : History C M) (rev : ℕ) → rev < length history
      → tree_of (trees_of same (history ++ more)) rev ≡ tree_of (trees_of same history) rev
  tree_of-front history more rev within =
      ap (λ trees. tree_of trees rev) (trees_of-append history more)
      ∙ tree_of-revisions (trees_of same history) more rev (omega (arith, length-trees_of history))

  -- after a revision the next begins with its tree, each path come from itself
  pub opening_next : (trees : List (Tree C M)) (records : List (Record C M))
      → start_tree (with_revision same trees records) ≡ tree_from_revision (length trees) (end_tree same trees records)
  opening_next trees records = opening_push trees (end_tree same trees records)
