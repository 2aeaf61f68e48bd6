-- Where the entries of a revision's tree came from: the same path of the revision before, or where a record copied from.
use Rattle.std.proofs.Common.{◌≡◌, ◌⊎◌, ℕ, ◌+◌, ◌<◌, Bool, inl, inr, if◌then◌else◌, List, [], ◌∷◌, ◌++◌, Option, None, Some, All, IfSome, option_map, fold, length, get_or, take, drop, refl, sym, ap, ◌∙◌, arith, eq-eqb, take-append-drop}
use Rattle.std.proofs.lemmas.Bool.{cond_both}
use Rattle.std.proofs.lemmas.List.{length-take-le, take_more}
use Rattle.std.proofs.lemmas.List.Elements.{All-append, All-cons, All-filter, All-head, All-map, All-nil, All-push, All-tail, All-weaker}
use Rattle.svn_path.specs.Below.{below, same_path}
use Rattle.svn_dump.proofs.Revisions.{length-trees_of, tree_of-front, tree_of_push, trees_of_push}
use Rattle.svn_dump.proofs.Trees.{entry_from, settled_entry}
use Rattle.svn_dump.specs.History.{Action, History, Record, Setting, add, change, copy, delete}
use Rattle.svn_dump.specs.Tree.{Entry, Tree, end_tree, entry_of_copy, tree_after_record, tree_of, tree_with_mergeinfo, tree_without, trees_of}
unfoldable use Rattle.svn_dump.specs.Tree.{start_tree, tree_after_action}
use Rattle.query_answer.proofs.TreeEntries.{All-filter_map}
use Rattle.branch_answer.specs.Moves.{place_after, place_by}

-- the tree of a revision is what its records make of the one before
pub tree_of-end : {C M : Type 0} (same : C → C → Bool) (history : History C M) (rev : ℕ) → rev < length history
    → tree_of (trees_of same history) rev ≡ end_tree same (trees_of same (take rev history)) (get_or history rev [])
tree_of-end same history rev within =
    let before = trees_of same (take rev history) in
    let last = end_tree same before (get_or history rev []) in
    let front : length (take (rev + 1) history) ≡ rev + 1 = length-take-le (rev + 1) history (omega (arith, within)) in
    let count : rev ≡ length before = omega (arith, length-trees_of same (take rev history), length-take-le rev history (omega (arith, within))) in
    ap (λ all. tree_of (trees_of same all) rev) (sym (take-append-drop (rev + 1) history))
    ∙ tree_of-front same (take (rev + 1) history) (drop (rev + 1) history) rev (omega (arith, front))
    ∙ ap (λ all. tree_of (trees_of same all) rev) (take_more history rev [] within)
    ∙ ap (λ trees. tree_of trees rev) (trees_of_push same (take rev history) (get_or history rev []))
    ∙ ap (tree_of (before ++ last ∷ [])) count
    ∙ tree_of_push before last

module _ {C M : Type 0} (same : C → C → Bool) (R : Record C M → Type 0) where
  -- one of these records put it there
  pub record IsPutBy (from : List C × ℕ) (path : List C) : Type 0 where
    pub one : Record C M
    pub is : R one
    pub puts : place_after same from.0 from.1 one ≡ Some path

  -- it came from its own path, or by one of these records
  abbrev pub CameBy : List C × Entry C M → Type 0
  CameBy each = IfSome each.1.origin (λ from. (from.0 ≡ each.0) ⊎ IsPutBy from each.0)

  settled_came : (path : List C) (setting : Setting M) (tree : Tree C M) → All CameBy tree → All CameBy (tree_with_mergeinfo same path setting tree)
  settled_came path setting tree came =
      All-map CameBy _ tree
      (All-weaker CameBy _
      (λ each e. cond_both (same_path same each.0 path) (each.0, settled_entry setting each.1) each CameBy (λ _. e) (λ _. e)) tree came)

  module _ (one : Record C M) (of : R one) where
    copied_came : (replace : Bool) (from : List C) (from_rev : ℕ) (setting : Setting M) → one.action ≡ copy replace from from_rev setting
        → (each : List C × Entry C M) → IfSome {T = List C × Entry C M} (entry_of_copy same from from_rev one.path each) CameBy
    copied_came replace from from_rev setting is each = by (below same from each.0) refl
      where
        by : (b : Option (List C)) → below same from each.0 ≡ b
            → IfSome {T = List C × Entry C M} (option_map (λ rest. (one.path ++ rest, entry_from each.0 from_rev each.1)) b) CameBy
        by None left = tt
        by (Some rest) left = inr (record {
          one = one;
          is = of;
          puts = ap (place_by same each.0 from_rev one.path) is
              ∙ ap (λ b. if b then option_map (λ rest. one.path ++ rest) (below same from each.0) else None) (eq-eqb from_rev from_rev refl)
              ∙ ap (option_map (λ rest. one.path ++ rest)) left;
        })

    action_came : (trees : List (Tree C M)) (action : Action C M) (tree : Tree C M) → one.action ≡ action → All CameBy tree
        → All CameBy (tree_after_action same trees one.path action tree)
    unfolding tree_after_action
    action_came trees delete tree is came = All-filter _ CameBy tree came
    action_came trees (change setting) tree is came = settled_came one.path setting tree came
    action_came trees (add replace kind setting) tree is came = All-push CameBy (tree_without same one.path tree) _ (All-filter _ CameBy tree came) tt
    action_came trees (copy replace from from_rev setting) tree is came =
        let source = tree_of trees from_rev in
        All-append CameBy (tree_without same one.path tree) _ (All-filter _ CameBy tree came)
        (settled_came one.path setting _
        (All-filter_map (entry_of_copy same from from_rev one.path) CameBy source
        (λ k d within. copied_came replace from from_rev setting is (get_or source k d))))

  records_came : (trees : List (Tree C M)) (tree : Tree C M) (records : List (Record C M)) → All R records → All CameBy tree
      → All CameBy (fold (tree_after_record same trees) tree records)
  records_came trees tree [] each came = came
  records_came trees tree (one ∷ records) each came =
      records_came trees (tree_after_record same trees tree one) records (All-tail R one records each)
      (action_came one (All-head R one records each) trees one.action tree refl came)

  opening_came : (trees : List (Tree C M)) → All CameBy (start_tree trees)
  unfolding start_tree
  opening_came [] = All-cons CameBy _ [] tt (All-nil CameBy)
  opening_came (tree ∷ trees) = All-map CameBy _ (tree_of (tree ∷ trees) (length trees)) (λ k d within. inl refl)

  -- so each entry of the tree of a revision of such records came
  pub CameBy-tree_of : (history : History C M) (rev : ℕ) → rev < length history → All R (get_or history rev [])
      → All CameBy (tree_of (trees_of same history) rev)
  CameBy-tree_of history rev within each =
      let before = trees_of same (take rev history) in
      rw (tree_of-end same history rev within) (records_came before (start_tree before) (get_or history rev []) each (opening_came before))
