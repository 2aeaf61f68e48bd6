-- What one record does to the origin of a path that exists after it.
use Rattle.path_index.proofs.Common.{◌≡◌, ℕ, IsTrue, Bool, true, List, [], ◌∷◌, ◌++◌, Option, None, Some, All, is_some, option_map, fold, refl, ap, ◌∙◌, true≢false, sym, subst, All-head, All-tail, below, is_below, Setting, delete, change, add, copy, Record, Tree, Entry, entry_at, is_there, tree_of, tree_after_record, IsSame, below-itself, origin_of_entry, SetsOrigin}
use Rattle.std.proofs.lemmas.List.Sums.{fold-append}
use Rattle.svn_dump.specs.declared.record.Kind.{Kind}
use Rattle.svn_dump.proofs.Belows.{path_from_below}
use Rattle.svn_dump.proofs.Trees.{entry_at-elsewhere, entry_at-under, entry_left, settled_entry_at, entry_from}

-- the path existed before the record, and had the same origin
pub record KeepsOrigin {C M : Type 0} (same : C → C → Bool) (path : List C) (each : Record C M) : Type 0 where
  pub there : (trees : List (Tree C M)) (tree : Tree C M)
      → IsTrue (is_there same (tree_after_record same trees tree each) path) → IsTrue (is_there same tree path)
  pub origin : (trees : List (Tree C M)) (tree : Tree C M)
      → IsTrue (is_there same (tree_after_record same trees tree each) path)
      → origin_of_entry (entry_at same (tree_after_record same trees tree each) path)
      ≡ origin_of_entry (entry_at same tree path)

-- the first entry, where it exists, has the origin of the second
abbrev IsAlike : {C M : Type 0} → Option (Entry C M) → Option (Entry C M) → Type 0
IsAlike after before = is_some after ≡ true → (is_some before ≡ true) × (origin_of_entry after ≡ origin_of_entry before)

settled_alike : {C M : Type 0} (setting : Setting M) (rest : List C) (old : Option (Entry C M)) → IsAlike (option_map (settled_entry_at setting rest) old) old
settled_alike setting rest None there = absurd (true≢false (sym there))
settled_alike setting [] (Some e) there = (refl, refl)
settled_alike setting (c ∷ rest) (Some e) there = (refl, refl)

copied_origin : {C M : Type 0} (setting : Setting M) (from : List C × ℕ) (rest : List C) (old : Option (Entry C M))
    → is_some (option_map (λ e. settled_entry_at setting rest (entry_from from.0 from.1 e)) old) ≡ true
    → origin_of_entry (option_map (λ e. settled_entry_at setting rest (entry_from from.0 from.1 e)) old) ≡ Some (from.0, from.1)
copied_origin setting from rest None there = absurd (true≢false (sym there))
copied_origin setting from [] (Some e) there = refl
copied_origin setting from (c ∷ rest) (Some e) there = refl

module _ {C M : Type 0} (same : C → C → Bool) (is : IsSame same) (path : List C) where
  KeepsOrigin-from_alike : (each : Record C M)
      → ((trees : List (Tree C M)) (tree : Tree C M) → IsAlike (entry_at same (tree_after_record same trees tree each) path) (entry_at same tree path))
      → KeepsOrigin same path each
  KeepsOrigin-from_alike each alike = record { there = λ trees tree there. (alike trees tree there).0; origin = λ trees tree there. (alike trees tree there).1 }

  left_alike : (each : Record C M) (rest : List C) → below same each.path path ≡ Some rest
      → ((trees : List (Tree C M)) (old : Option (Entry C M)) → IsAlike (entry_left same trees each.action old rest) old) → KeepsOrigin same path each
  left_alike each rest under alike =
      KeepsOrigin-from_alike each
      (λ trees tree. subst (λ e. IsAlike e (entry_at same tree path)) (sym (entry_at-under same is trees each.path each.action tree path rest under))
      (alike trees (entry_at same tree path)))

  -- a record elsewhere
  pub KeepsOrigin-elsewhere : (each : Record C M) → below same each.path path ≡ None → KeepsOrigin same path each
  KeepsOrigin-elsewhere each apart =
      KeepsOrigin-from_alike each
      (λ trees tree. subst (λ e. IsAlike e (entry_at same tree path)) (sym (entry_at-elsewhere same is trees each.path each.action tree path apart)) (λ there. (there, refl)))

  -- a deletion
  pub KeepsOrigin-delete : (at : List C) → KeepsOrigin {M = M} same path (record { path = at; action = delete })
  KeepsOrigin-delete at = by (below same at path) refl
    where
      by : (b : Option (List C)) → below same at path ≡ b → KeepsOrigin {M = M} same path (record { path = at; action = delete })
      by None apart = KeepsOrigin-elsewhere (record { path = at; action = delete }) apart
      by (Some rest) under = left_alike (record { path = at; action = delete }) rest under (λ trees old there. absurd (true≢false (sym there)))

  -- a change of mergeinfo
  pub KeepsOrigin-change : (at : List C) (setting : Setting M) → KeepsOrigin same path (record { path = at; action = change setting })
  KeepsOrigin-change at setting = by (below same at path) refl
    where
      by : (b : Option (List C)) → below same at path ≡ b → KeepsOrigin same path (record { path = at; action = change setting })
      by None apart = KeepsOrigin-elsewhere (record { path = at; action = change setting }) apart
      by (Some rest) under = left_alike (record { path = at; action = change setting }) rest under (λ trees old. settled_alike setting rest old)

  -- an addition of another path
  pub KeepsOrigin-add : (at : List C) (replace : Bool) (kind : Kind) (setting : Setting M) → (path ≡ at → ⊥) → KeepsOrigin same path (record { path = at; action = add replace kind setting })
  KeepsOrigin-add at replace kind setting other = by (below same at path) refl
    where
      by : (b : Option (List C)) → below same at path ≡ b → KeepsOrigin same path (record { path = at; action = add replace kind setting })
      by None apart = KeepsOrigin-elsewhere (record { path = at; action = add replace kind setting }) apart
      by (Some []) under = absurd (other (sym (path_from_below same is at path under)))
      by (Some (c ∷ rest)) under = left_alike (record { path = at; action = add replace kind setting }) (c ∷ rest) under (λ trees old there. absurd (true≢false (sym there)))

  -- an addition of the path leaves it without an origin
  pub SetsOrigin-add : (at : List C) (replace : Bool) (kind : Kind) (setting : Setting M) → path ≡ at → SetsOrigin same path None (record { path = at; action = add replace kind setting })
  SetsOrigin-add at replace kind setting here = record {
    origin = λ trees tree there.
        let under : below same at path ≡ Some [] = ap (below same at) here ∙ below-itself is at in
        ap origin_of_entry (entry_at-under same is trees at (add replace kind setting) tree path [] under);
  }

  -- a copy of a path elsewhere
  pub KeepsOrigin-copy : (at : List C) (replace : Bool) (from : List C) (from_rev : ℕ) (setting : Setting M) → (is_below same at path ≡ true → ⊥)
      → KeepsOrigin same path (record { path = at; action = copy replace from from_rev setting })
  KeepsOrigin-copy at replace from from_rev setting other = by (below same at path) refl
    where
      by : (b : Option (List C)) → below same at path ≡ b → KeepsOrigin same path (record { path = at; action = copy replace from from_rev setting })
      by None apart = KeepsOrigin-elsewhere (record { path = at; action = copy replace from from_rev setting }) apart
      by (Some rest) under = absurd (other (ap is_some under))

  -- after a copy of the path or of one above it, its origin is below the source
  pub SetsOrigin-copy : (at : List C) (replace : Bool) (from : List C) (from_rev : ℕ) (setting : Setting M) (rest : List C) → below same at path ≡ Some rest
      → SetsOrigin same path (Some (from ++ rest, from_rev)) (record { path = at; action = copy replace from from_rev setting })
  SetsOrigin-copy at replace from from_rev setting rest under = record {
    origin = λ trees tree there.
        let after = entry_at-under same is trees at (copy replace from from_rev setting) tree path rest under in
        ap origin_of_entry after ∙ copied_origin setting (from ++ rest, from_rev) rest (entry_at same (tree_of trees from_rev) (from ++ rest)) (ap is_some (sym after) ∙ there);
  }

-- ---- some records

module _ {C M : Type 0} (same : C → C → Bool) (path : List C) (trees : List (Tree C M)) where
  -- what the path has after some records that keep its origin, it had before them
  pub KeepsOrigin-fold : (tree : Tree C M) (records : List (Record C M)) → All (KeepsOrigin same path) records
      → is_there same (fold (tree_after_record same trees) tree records) path ≡ true
      → (is_there same tree path ≡ true) × (origin_of_entry (entry_at same (fold (tree_after_record same trees) tree records) path) ≡ origin_of_entry (entry_at same tree path))
  KeepsOrigin-fold tree [] all there = (there, refl)
  KeepsOrigin-fold tree (each ∷ records) all there =
      let keeps : KeepsOrigin same path each = All-head (KeepsOrigin same path) each records all in
      let (after, so) = KeepsOrigin-fold (tree_after_record same trees tree each) records (All-tail (KeepsOrigin same path) each records all) there in
      (keeps.there trees tree after, so ∙ keeps.origin trees tree after)

  -- its origin is the one that the newest record which does not keep it sets
  pub SetsOrigin-fold : (origin : Option (List C × ℕ)) (tree : Tree C M) (front : List (Record C M)) (each : Record C M) (records : List (Record C M))
      → SetsOrigin same path origin each → All (KeepsOrigin same path) records
      → is_there same (fold (tree_after_record same trees) tree (front ++ each ∷ records)) path ≡ true
      → origin_of_entry (entry_at same (fold (tree_after_record same trees) tree (front ++ each ∷ records)) path) ≡ origin
  SetsOrigin-fold origin tree front each records sets all there =
      let before = fold (tree_after_record same trees) tree front in
      let split = fold-append (tree_after_record same trees) tree front (each ∷ records) in
      let (after, so) = KeepsOrigin-fold (tree_after_record same trees before each) records all (ap (λ t. is_there same t path) (sym split) ∙ there) in
      ap (λ t. origin_of_entry (entry_at same t path)) split ∙ so ∙ sets.origin trees before after
