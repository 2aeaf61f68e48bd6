-- The nearest mergeinfo among the first components of a path.
use Rattle.block_map.proofs.Common.{◌≡◌, ℕ, ◌+◌, ◌≤◌, ◌⊎◌, List, [], ◌∷◌, ◌++◌, Option, None, Some, option_map, length, take, inl, inr, refl, sym, ap, ◌∙◌, arith, append-nil, append_assoc, length-append, option_and_then, option_or, take-append_seam, cases_lt, same_Some, NameId, ValueId, HasNoneFrom, IsNearestOrNone, nearest_view, Standing, entry_view, mergeinfo_of, standing_of, LookOfNumbers}
use Rattle.block_map.specs.declared.entry.Entry.{Entry}
use Rattle.block_map.specs.declared.entry.Nearest.{Nearest}

-- none of the first components has any
abbrev pub HasNoneUpTo : (List NameId → Option ValueId) → List NameId → ℕ → ℕ → Type 0
HasNoneUpTo own path from depth = (more : ℕ) → from ≤ more → more ≤ depth → own (take more path) ≡ None

-- the nearest mergeinfo from the first so many components up to the root
abbrev pub IsNearestUpTo : (List NameId → Option ValueId) → List NameId → ℕ → Option Nearest → Type 0
IsNearestUpTo own path depth None = HasNoneUpTo own path 0 depth
IsNearestUpTo own path depth (Some nearest) =
    (nearest.depth ≤ depth) × (own (take nearest.depth path) ≡ Some nearest.mi) × HasNoneUpTo own path (nearest.depth + 1) depth

module _ (own : List NameId → Option ValueId) (path : List NameId) where
  -- what was found at so many components, as it is kept
  abbrev pub IsFoundAt : ℕ → Option Nearest → Type 0
  IsFoundAt depth found = option_map nearest_view found ≡ option_map (λ mi. (mi, depth)) (own (take depth path))

  abbrev with_depth : ℕ → ValueId → ValueId × ℕ
  with_depth depth mi = (mi, depth)

  found_none : (depth : ℕ) (o : Option ValueId) → None ≡ option_map (with_depth depth) o → o ≡ None
  found_none depth None is = refl
  found_none depth (Some mi) is = cc

  found_some : (depth : ℕ) (nearest : Nearest) (o : Option ValueId) → Some (nearest_view nearest) ≡ option_map (with_depth depth) o
      → (nearest.depth ≡ depth) × (o ≡ Some nearest.mi)
  found_some depth nearest None is = cc
  found_some depth nearest (Some mi) is =
      let both : nearest_view nearest ≡ with_depth depth mi = same_Some (nearest_view nearest) (with_depth depth mi) is in
      (ap (λ each. each.1) both, ap (λ each. Some each.0) (sym both))

  at_or_below : (n m : ℕ) → n ≤ m + 1 → (n ≤ m) ⊎ (n ≡ m + 1)
  at_or_below n m less = elim (cases_lt m n) [ inl above ↦ inr (omega (arith, above, less)) | inr upto ↦ inl upto ]

  -- at the root
  pub IsNearestUpTo-root : (found : Option Nearest) → IsFoundAt 0 found → IsNearestUpTo own path 0 found
  IsNearestUpTo-root None is = λ more from upto. let zero_is : more ≡ 0 = omega (arith, upto) in ap (λ n. own (take n path)) zero_is ∙ found_none 0 (own (take 0 path)) is
  IsNearestUpTo-root (Some nearest) is =
      let (depth, mi) = found_some 0 nearest (own (take 0 path)) is in
      (omega (arith, depth), ap (λ n. own (take n path)) depth ∙ mi, λ more from upto. absurd (omega (arith, from, upto)))

  -- and one component further down
  pub IsNearestUpTo-more : (depth : ℕ) (found before : Option Nearest) → IsFoundAt (depth + 1) found → IsNearestUpTo own path depth before
      → IsNearestUpTo own path (depth + 1) (option_or found before)
  IsNearestUpTo-more depth (Some nearest) before is was =
      let (at, mi) = found_some (depth + 1) nearest (own (take (depth + 1) path)) is in
      (omega (arith, at), ap (λ n. own (take n path)) at ∙ mi, λ more from upto. absurd (omega (arith, from, upto, at)))
  IsNearestUpTo-more depth None None is was = λ more from upto. elim (at_or_below more depth upto) [
    | inl less ↦ was more from less
    | inr last ↦ ap (λ n. own (take n path)) last ∙ found_none (depth + 1) (own (take (depth + 1) path)) is
  ]
  IsNearestUpTo-more depth None (Some nearest) is was = (
    omega (arith, was.0),
    was.1,
    λ more from upto. elim (at_or_below more depth upto) [
      | inl less ↦ was.2 more from less
      | inr last ↦ ap (λ n. own (take n path)) last ∙ found_none (depth + 1) (own (take (depth + 1) path)) is
    ],
  )

  -- of the whole path
  pub IsNearestOrNone-all : (depth : ℕ) (found : Option Nearest) → depth ≡ length path → IsNearestUpTo own path depth found → IsNearestOrNone own path found
  IsNearestOrNone-all depth None all up = λ more from upto. up more from (omega (arith, upto, all))
  IsNearestOrNone-all depth (Some nearest) all up = ((omega (arith, up.0, all), up.1), λ more from upto. up.2 more from (omega (arith, upto, all)))

-- ---- from a path up to the root

-- the search has come up to the first components of a path, at which this stands: with more of them there is no mergeinfo
pub record HasNoneBelow (found : LookOfNumbers) (path above : List NameId) (entry : Option Entry) : Type 0 where
  pub rest : List NameId
  pub split : path ≡ above ++ rest
  pub stands : option_map entry_view entry ≡ standing_of (found above)
  pub none : HasNoneFrom (λ front. mergeinfo_of (found front)) path (length above + 1)

-- at the path itself it begins
pub HasNoneBelow-path : (found : LookOfNumbers) (path : List NameId) (entry : Option Entry) → option_map entry_view entry ≡ standing_of (found path) → HasNoneBelow found path path entry
HasNoneBelow-path found path entry stands =
    record { rest = []; split = sym (append-nil path); stands = stands; none = λ more from upto. absurd (omega (arith, from, upto)) }

module _ (found : LookOfNumbers) (path above : List NameId) (entry : Option Entry) (come : HasNoneBelow found path above entry) where
  abbrev own : List NameId → Option ValueId
  own front = mergeinfo_of (found front)

  abbrev mergeinfo_there : Option ValueId
  mergeinfo_there = option_and_then (λ (each : Standing ValueId). each.mergeinfo) (option_map entry_view entry)

  own-there : own (take (length above) path) ≡ mergeinfo_there
  own-there =
      ap (λ whole. own (take (length above) whole)) come.split ∙ ap own (take-append_seam above come.rest)
      ∙ ap (option_and_then (λ (each : Standing ValueId). each.mergeinfo)) (sym come.stands)

  -- it ends where there is some
  pub IsNearestOrNone-there : (mi : ValueId) → mergeinfo_there ≡ Some mi → IsNearestOrNone own path (Some (record { mi = mi; depth = length above }))
  IsNearestOrNone-there mi has = ((omega (arith, ap length come.split, length-append above come.rest), own-there ∙ has), come.none)

  -- or goes on where there is none
  pub HasNoneFrom-there : mergeinfo_there ≡ None → HasNoneFrom own path (length above)
  HasNoneFrom-there none = λ more from upto. elim (cases_lt (length above) more) [
    | inl past ↦ come.none more (omega (arith, past)) upto
    | inr before ↦
        let here : more ≡ length above = omega (arith, from, before) in
        ap (λ n. own (take n path)) here ∙ own-there ∙ none
  ]

  pub HasNoneBelow-parent : (parent : List NameId) (last : NameId) (next : Option Entry) → mergeinfo_there ≡ None → above ≡ parent ++ last ∷ []
      → option_map entry_view next ≡ standing_of (found parent) → HasNoneBelow found path parent next
  HasNoneBelow-parent parent last next none split stands = record {
    rest = last ∷ come.rest;
    split = come.split ∙ ap (λ front. front ++ come.rest) split ∙ append_assoc parent (last ∷ []) come.rest;
    stands = stands;
    none = λ more from upto. HasNoneFrom-there none more (omega (arith, from, ap length split, length-append parent (last ∷ []))) upto;
  }
