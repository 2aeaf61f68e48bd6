-- The nearest mergeinfo of a path: in a renamed tree, step by step from the root, and as a map finds it.
use Rattle.query_answer.proofs.Common.{◌≡◌, ℕ, zero, suc, ◌+◌, Bool, List, [], Option, None, Some, map, option_map, take, refl, ap, ◌∙◌, ◌≤◌, length, sym, arith, ◌⊎◌, inl, inr, subst, take-map, same_Some, cases_lt, same_name, NameId, DumpValue, Tree, Entry, entry_at, entry_at-nil, rename_entry, rename_tree, entry_at-rename, NearestMergeinfo, nearest, nearest_from, own_mergeinfo, own_or, depth_in, IsNearestIn, nearest_by_number, ValueId, HasNoneFrom, IsNearest, IsNearestOrNone, revision_in, Standing, own_mergeinfo_at}
use Rattle.std.proofs.Common.{option_and_then}
use Rattle.svn_dump.proofs.Renaming.Paths.{KeepsSame}
use Rattle.block_map.specs.declared.entry.Nearest.{Nearest}

-- ---- in a renamed tree

mergeinfo-rename : {C D M N : Type 0} (name : C → D) (text : M → N) (found : Option (Entry C M))
    → option_and_then (λ entry. entry.mergeinfo) (option_map (rename_entry name text) found)
    ≡ option_map text (option_and_then (λ entry. entry.mergeinfo) found)
mergeinfo-rename name text None = refl
mergeinfo-rename name text (Some entry) = refl

-- the mergeinfo as another one
abbrev pub with_mergeinfo_by : {M N : Type 0} → (M → N) → NearestMergeinfo M → NearestMergeinfo N
with_mergeinfo_by text found = record { mergeinfo = text found.mergeinfo; depth = found.depth }

abbrev at_depth : {M : Type 0} → M → ℕ → NearestMergeinfo M
at_depth mergeinfo depth = record { mergeinfo = mergeinfo; depth = depth }

own_or-rename : {M N : Type 0} (text : M → N) (own : Option M) (depth : ℕ) (above : Option (NearestMergeinfo M))
    → own_or (option_map text own) depth (option_map (with_mergeinfo_by text) above)
    ≡ option_map (with_mergeinfo_by text) (own_or own depth above)
own_or-rename text None depth above = refl
own_or-rename text (Some mergeinfo) depth above = refl

module _ {C D M N : Type 0} (name : C → D) (text : M → N) (sameC : C → C → Bool) (sameD : D → D → Bool)
    (alike : KeepsSame name sameC sameD) where
  -- a renamed path has the renamed mergeinfo
  pub own_mergeinfo-rename : (tree : Tree C M) (path : List C)
      → own_mergeinfo sameD (rename_tree name text tree) (map name path) ≡ option_map text (own_mergeinfo sameC tree path)
  own_mergeinfo-rename tree path =
      ap (option_and_then (λ entry. entry.mergeinfo)) (entry_at-rename name text sameC sameD alike tree path)
      ∙ mergeinfo-rename name text (entry_at sameC tree path)

  -- so does the front of a renamed path
  front_mergeinfo-rename : (tree : Tree C M) (path : List C) (depth : ℕ)
      → own_mergeinfo sameD (rename_tree name text tree) (take depth (map name path)) ≡ option_map text (own_mergeinfo sameC tree (take depth path))
  front_mergeinfo-rename tree path depth =
      ap (own_mergeinfo sameD (rename_tree name text tree)) (take-map name depth path) ∙ own_mergeinfo-rename tree (take depth path)

  -- the nearest mergeinfo is renamed, and its path is as long
  pub nearest_from-rename : (tree : Tree C M) (path : List C) (depth : ℕ)
      → nearest_from sameD (rename_tree name text tree) (map name path) depth
      ≡ option_map (with_mergeinfo_by text) (nearest_from sameC tree path depth)
  unfolding nearest_from
  nearest_from-rename tree path zero =
      ap (λ own. own_or own 0 None) (front_mergeinfo-rename tree path 0)
      ∙ own_or-rename text (own_mergeinfo sameC tree (take 0 path)) 0 None
  nearest_from-rename tree path (suc depth) =
      (λ i. own_or (front_mergeinfo-rename tree path (suc depth) i) (suc depth) (nearest_from-rename tree path depth i))
      ∙ own_or-rename text (own_mergeinfo sameC tree (take (suc depth) path)) (suc depth) (nearest_from sameC tree path depth)

-- ---- the steps of a walk along a path

module _ {C M : Type 0} (same : C → C → Bool) (tree : Tree C M) (path : List C) where
  -- the root has none
  pub nearest_from-none_at_root : own_mergeinfo same tree [] ≡ None → nearest_from same tree path 0 ≡ None
  unfolding nearest_from
  nearest_from-none_at_root none = ap (λ own. own_or own 0 None) none

  -- the root has some
  pub nearest_from-some_at_root : (mergeinfo : M) → own_mergeinfo same tree [] ≡ Some mergeinfo
      → nearest_from same tree path 0 ≡ Some (at_depth mergeinfo 0)
  unfolding nearest_from
  nearest_from-some_at_root mergeinfo own = ap (λ own. own_or own 0 None) own

  -- so many components of the path have none: it is that of the path above
  pub nearest_from-none : (depth : ℕ) → own_mergeinfo same tree (take (suc depth) path) ≡ None
      → nearest_from same tree path (suc depth) ≡ nearest_from same tree path depth
  unfolding nearest_from
  nearest_from-none depth none = ap (λ own. own_or own (suc depth) (nearest_from same tree path depth)) none

  -- they have some: it is that
  pub nearest_from-some : (depth : ℕ) (mergeinfo : M) → own_mergeinfo same tree (take (suc depth) path) ≡ Some mergeinfo
      → nearest_from same tree path (suc depth) ≡ Some (at_depth mergeinfo (suc depth))
  unfolding nearest_from
  nearest_from-some depth mergeinfo own = ap (λ own. own_or own (suc depth) (nearest_from same tree path depth)) own

-- ---- as a map finds it

-- the mergeinfo of what stands at a path
pub own_mergeinfo-standing : {C M : Type 0} (same : C → C → Bool) (tree : Tree C M) (path : List C)
    → own_mergeinfo_at same tree path ≡ own_mergeinfo same tree path
own_mergeinfo-standing {C} {M} same tree path = by (entry_at same tree path)
  where
    by : (o : Option (Entry C M))
        → option_and_then (λ standing. standing.mergeinfo)
        (option_map (λ entry. let one : Standing M = record { kind = entry.kind; mergeinfo = entry.mergeinfo } in one) o)
        ≡ option_and_then (λ entry. entry.mergeinfo) o
    by None = refl
    by (Some entry) = refl

module _ (tree : Tree NameId ValueId) (path : List NameId) where
  -- where no path above has any there is none
  nearest_from-none_above : (n : ℕ) → n ≤ length path → HasNoneFrom (own_mergeinfo same_name tree) path 0 → nearest_from same_name tree path n ≡ None
  nearest_from-none_above zero few none = nearest_from-none_at_root same_name tree path (none 0 (omega arith) few)
  nearest_from-none_above (suc n) few none =
      nearest_from-none same_name tree path n (none (suc n) (omega arith) few) ∙ nearest_from-none_above n (omega (arith, few)) none

  module _ (found : Nearest) (is : IsNearest (own_mergeinfo same_name tree) path found)
      (none : HasNoneFrom (own_mergeinfo same_name tree) path (found.depth + 1)) where
    -- where no path below what is found has any it is the nearest
    nearest_from-found : (n : ℕ) → found.depth ≤ n → n ≤ length path → nearest_from same_name tree path n ≡ Some (nearest_by_number found)
    nearest_from-found zero more few =
        let here : found.depth ≡ 0 = omega (arith, more) in
        nearest_from-some_at_root same_name tree path found.mi (ap (λ depth. own_mergeinfo same_name tree (take depth path)) (sym here) ∙ is.1)
        ∙ ap (λ depth. Some (at_depth found.mi depth)) (sym here)
    nearest_from-found (suc n) more few = elim (cases_lt n found.depth) [
      | inl under ↦
          let here : found.depth ≡ suc n = omega (arith, more, under) in
          nearest_from-some same_name tree path n found.mi (ap (λ depth. own_mergeinfo same_name tree (take depth path)) (sym here) ∙ is.1)
          ∙ ap (λ depth. Some (at_depth found.mi depth)) (sym here)
      | inr above ↦
          nearest_from-none same_name tree path n (none (suc n) (omega (arith, above)) few) ∙ nearest_from-found n above (omega (arith, few))
    ]

  nearest-found : (found : Option Nearest) → IsNearestOrNone (own_mergeinfo same_name tree) path found
      → option_map nearest_by_number found ≡ nearest same_name tree path
  nearest-found None none = sym (nearest_from-none_above (length path) (omega arith) none)
  nearest-found (Some found) (is, none) = sym (nearest_from-found found is none (length path) is.0 (omega arith))

  nearest_depth : (found : Option Nearest) → IsNearestOrNone (own_mergeinfo same_name tree) path found → depth_in path found ≤ length path
  nearest_depth None none = omega arith
  nearest_depth (Some found) (is, none) = is.0

-- what is found in the tree of a revision is the nearest
pub IsNearestIn-found : (dump : DumpValue) (path : List NameId) (rev : ℕ) (found : Option Nearest)
    → IsNearestOrNone (own_mergeinfo_at same_name (revision_in dump rev)) path found → IsNearestIn dump path rev found
IsNearestIn-found dump path rev found is =
    let one = subst (λ own. IsNearestOrNone own path found) (λ i at. own_mergeinfo-standing same_name (revision_in dump rev) at i) is in
    record { nearest_is = nearest-found (revision_in dump rev) path found one; depth = nearest_depth (revision_in dump rev) path found one }

-- in a tree without entries there is none
pub nearest-no_entries : (path : List NameId) → nearest {M = ValueId} same_name [] path ≡ None
nearest-no_entries path = from (length path)
  where
    own : (depth : ℕ) → own_mergeinfo {M = ValueId} same_name [] (take depth path) ≡ None
    own depth = ap (option_and_then (λ entry. entry.mergeinfo)) (entry_at-nil {M = ValueId} same_name (take depth path))

    from : (n : ℕ) → nearest_from {M = ValueId} same_name [] path n ≡ None
    from zero = nearest_from-none_at_root same_name [] path (own 0)
    from (suc n) = nearest_from-none same_name [] path n (own (suc n)) ∙ from n

-- ---- what was found

module _ {C M : Type 0} (same : C → C → Bool) (tree : Tree C M) (path : List C) (mergeinfo : M) (depth : ℕ) where
  own-own_or : (own : Option M) (n : ℕ) (rest : Option (NearestMergeinfo M)) → own_or own n rest ≡ Some (at_depth mergeinfo depth) → ((own ≡ Some mergeinfo) × (n ≡ depth)) ⊎ (rest ≡ Some (at_depth mergeinfo depth))
  own-own_or None n rest is = inr is
  own-own_or (Some found) n rest is =
      let both = same_Some (at_depth found n) (at_depth mergeinfo depth) is in
      inl (ap (λ (each : NearestMergeinfo M). Some each.mergeinfo) both, ap (λ (each : NearestMergeinfo M). each.depth) both)

  -- it is the mergeinfo of so many components of the path
  pub own-nearest_from : (n : ℕ) → nearest_from same tree path n ≡ Some (at_depth mergeinfo depth) → own_mergeinfo same tree (take depth path) ≡ Some mergeinfo
  unfolding nearest_from
  own-nearest_from zero is = elim (own-own_or (own_mergeinfo same tree (take 0 path)) 0 None is) [
    | inl (own, at) ↦ ap (λ each. own_mergeinfo same tree (take each path)) (sym at) ∙ own
    | inr none ↦ cc
  ]
  own-nearest_from (suc n) is = elim (own-own_or (own_mergeinfo same tree (take (suc n) path)) (suc n) (nearest_from same tree path n) is) [
    | inl (own, at) ↦ ap (λ each. own_mergeinfo same tree (take each path)) (sym at) ∙ own
    | inr above ↦ own-nearest_from n above
  ]
