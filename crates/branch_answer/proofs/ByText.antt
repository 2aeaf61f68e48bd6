-- Paths that are kept by their texts.
use Rattle.std.proofs.Common.{◌≡◌, ℕ, List, [], ◌∷◌, ◌++◌, All, map, refl, sym, ap, subst, ◌∙◌}
use Rattle.std.proofs.lemmas.List.{map_push}
use Rattle.std.proofs.lemmas.List.Elements.{All-head, All-map, All-tail}
use Rattle.std.proofs.lemmas.List.Sums.{fold_push}
use Rattle.std.specs.BTreeMap.{insert_entry}
use Rattle.std.specs.Cmp.Lexicographic.{slice_cmp}
use Rattle.std.specs.Global.{Vec}
use Rattle.std.specs.Ordering.{match_ordering, nat_cmp}
use Rattle.std.specs.declared.cmp.Ordering.TheVariants.{Less, Equal, Greater}
use Rattle.svn_path.specs.Components.{path_text}
use Rattle.svn_path.specs.Path.{components_of}
use Rattle.svn_path.specs.declared.names.NameId.{NameId}
use Rattle.branch_answer.proofs.Membership.{All-from_map}
use Rattle.branch_answer.proofs.SortedTexts.{All-sorted_by_text}
use Rattle.branch_answer.specs.TextOrder.{entries_by_text, path_by_text, paths_by_text, sorted_by_text, with_text}

-- the entries of a map with one more
abbrev with_entry : List (Vec ℕ × List NameId) → Vec ℕ → List NameId → List (Vec ℕ × List NameId)
with_entry entries text path = insert_entry (λ a b. slice_cmp nat_cmp a.items b.items) entries text path

-- texts are put in place as their bytes are
entries_by_text-insert : (entries : List (Vec ℕ × List NameId)) (text : Vec ℕ) (path : List NameId)
    → entries_by_text (with_entry entries text path) ≡ with_text (entries_by_text entries) (text.items, path)
entries_by_text-insert [] text path = refl
entries_by_text-insert (e ∷ entries) text path =
    elim (slice_cmp nat_cmp text.items e.0.items) as (λ o. entries_by_text (match_ordering o ((text, path) ∷ e ∷ entries) ((e.0, path) ∷ entries) (e ∷ with_entry entries text path))
    ≡ match_ordering o ((text.items, path) ∷ entries_by_text (e ∷ entries)) ((e.0.items, path) ∷ entries_by_text entries) ((e.0.items, e.1) ∷ with_text (entries_by_text entries) (text.items, path))) [
      | Less ↦ refl
      | Equal ↦ refl
      | Greater ↦ ap (λ more. (e.0.items, e.1) ∷ more) (entries_by_text-insert entries text path)
    ]

module _ (names : List (List ℕ)) where
  -- one path more
  pub by_text-more : (done : List (List NameId)) (entries more : List (Vec ℕ × List NameId)) (text : Vec ℕ) (path : List NameId)
      → entries_by_text entries ≡ sorted_by_text (paths_by_text names done) → text.items ≡ path_text (components_of names path) → more ≡ with_entry entries text path
      → entries_by_text more ≡ sorted_by_text (paths_by_text names (done ++ path ∷ []))
  by_text-more done entries more text path before spelled is =
      ap entries_by_text is ∙ entries_by_text-insert entries text path
      ∙ ap (λ bytes. with_text (entries_by_text entries) (bytes, path)) spelled
      ∙ ap (λ sorted. with_text sorted (path_by_text names path)) before
      ∙ sym (ap sorted_by_text (map_push (path_by_text names) done path) ∙ fold_push with_text [] (paths_by_text names done) (path_by_text names path))

  -- the paths of entries, each of which has the text of its path
  paths_of-entries : (entries : List (Vec ℕ × List NameId)) → All (λ each. path_by_text names each.1 ≡ each) (entries_by_text entries)
      → paths_by_text names (map (λ entry. entry.1) entries) ≡ entries_by_text entries
  paths_of-entries [] all = refl
  paths_of-entries (e ∷ entries) all = λ i.
      All-head (λ each. path_by_text names each.1 ≡ each) (e.0.items, e.1) (entries_by_text entries) all i
      ∷ paths_of-entries entries (All-tail (λ each. path_by_text names each.1 ≡ each) (e.0.items, e.1) (entries_by_text entries) all) i

  -- so those of a map are in order
  pub values-by_text : (entries : List (Vec ℕ × List NameId)) (found paths : List (List NameId)) → entries_by_text entries ≡ sorted_by_text (paths_by_text names found)
      → paths ≡ map (λ entry. entry.1) entries → paths_by_text names paths ≡ sorted_by_text (paths_by_text names found)
  values-by_text entries found paths sorted are =
      let Spells = λ (each : List ℕ × List NameId). path_by_text names each.1 ≡ each in
      ap (paths_by_text names) are
      ∙ paths_of-entries entries
      (subst (All Spells) (sym sorted)
      (All-sorted_by_text Spells (paths_by_text names found) (All-map Spells (path_by_text names) found (λ k d within. refl))))
      ∙ sorted

  -- what holds of each path holds of each in order
  pub All-by_text : (P : List NameId → Type 0) (found paths : List (List NameId)) → paths_by_text names paths ≡ sorted_by_text (paths_by_text names found) → All P found → All P paths
  All-by_text P found paths sorted all =
      All-from_map (path_by_text names) (λ each. P each.1) paths
      (subst (All (λ each. P each.1)) (sym sorted)
      (All-sorted_by_text (λ each. P each.1) (paths_by_text names found) (All-map (λ each. P each.1) (path_by_text names) found all)))
