-- The numbers of a range among numbers downwards.
use Rattle.path_index.proofs.Common.{◌≡◌, ℕ, zero, suc, ◌-◌, ◌≤◌, max, min, nat_le, nat_lt, Bool, true, false, ◌&&◌, List, [], ◌∷◌, ◌++◌, None, Some, Option, filter, map, if◌then◌else◌, refl, sym, ap, ap₂, ◌∙◌, append_assoc, arith, unwrap_or, leb-true, leb-false, map-append, filter-append, NameId, NodeRecord, first_revision, is_named_in, named_revisions, down_from, hit_at, is_in_range, Hit}

-- ---- filters

filter-filter : {X : Type 0} (p q : X → Bool) (xs : List X) → filter p (filter q xs) ≡ filter q (filter p xs)
filter-filter p q [] = refl
filter-filter p q (x ∷ xs) = by (p x) refl (q x) refl (filter-filter p q xs)
  where
    by : (a : Bool) → p x ≡ a → (b : Bool) → q x ≡ b → filter p (filter q xs) ≡ filter q (filter p xs)
        → filter p (filter q (x ∷ xs)) ≡ filter q (filter p (x ∷ xs))
    by true a true b rest = rw (b, a, b) (ap (λ more. x ∷ more) rest)
    by true a false b rest = rw (b, a, b) rest
    by false a true b rest = rw (b, a) rest
    by false a false b rest = rw (b, a) rest

-- the hits of revisions that pass
filter-hits_at : (p : ℕ → Bool) (index : ℕ) (revs : List ℕ)
    → filter (λ (hit : Hit). p hit.rev) (map (hit_at index) revs) ≡ map (hit_at index) (filter p revs)
filter-hits_at p index [] = refl
filter-hits_at p index (rev ∷ revs) = by (p rev) refl (filter-hits_at p index revs)
  where
    by : (b : Bool) → p rev ≡ b
        → filter (λ (hit : Hit). p hit.rev) (map (hit_at index) revs) ≡ map (hit_at index) (filter p revs)
        → filter (λ (hit : Hit). p hit.rev) (map (hit_at index) (rev ∷ revs)) ≡ map (hit_at index) (filter p (rev ∷ revs))
    by true passes rest = rw passes (ap (λ more. hit_at index rev ∷ more) rest)
    by false fails rest = rw fails rest

pub filter-all : {X : Type 0} (xs : List X) → filter (λ x. true) xs ≡ xs
filter-all [] = refl
filter-all (x ∷ xs) = ap (λ rest. x ∷ rest) (filter-all xs)

-- ---- numbers downwards

-- those of a range are numbers downwards, too
filter_range-down_from : (range : ℕ × ℕ) (n top : ℕ) → n ≤ top
    → filter (is_in_range (Some range)) (down_from n top)
    ≡ down_from (min top range.1 - max (top - n) (range.0 - 1)) (min top range.1)
filter_range-down_from range zero top few =
    let none : min top range.1 - max (top - 0) (range.0 - 1) ≡ 0 = omega arith in
    sym (ap (λ n. down_from n (min top range.1)) none)
filter_range-down_from range (suc n) zero few = absurd (omega (arith, few))
filter_range-down_from range (suc n) (suc top) few =
    by (nat_le range.0 (suc top)) refl (nat_le (suc top) range.1) refl (filter_range-down_from range n top (omega (arith, few)))
  where
    count : ℕ
    count = min top range.1 - max (top - n) (range.0 - 1)

    count_here : ℕ
    count_here = min (suc top) range.1 - max (suc top - suc n) (range.0 - 1)

    by : (a : Bool) → nat_le range.0 (suc top) ≡ a → (b : Bool) → nat_le (suc top) range.1 ≡ b
        → filter (is_in_range (Some range)) (down_from n top) ≡ down_from count (min top range.1)
        → filter (is_in_range (Some range)) (down_from (suc n) (suc top)) ≡ down_from count_here (min (suc top) range.1)
    by true a true b rest =
        let from = leb-true range.0 (suc top) a in
        let to = leb-true (suc top) range.1 b in
        let more : count_here ≡ suc count = omega (arith, from, to) in
        let last : min (suc top) range.1 ≡ suc top = omega (arith, to) in
        let next : min top range.1 ≡ top = omega (arith, to) in
        rw (a, b) (ap (λ revs. suc top ∷ revs) (rest ∙ ap (down_from count) next) ∙ sym (ap₂ down_from more last))
    by true a false b rest =
        let above = leb-false (suc top) range.1 b in
        let same : count ≡ count_here = omega (arith, above) in
        let last : min top range.1 ≡ min (suc top) range.1 = omega (arith, above) in
        rw (a, b) (rest ∙ ap₂ down_from same last)
    by false a b is rest =
        let below = leb-false range.0 (suc top) a in
        let none : count ≡ 0 = omega (arith, below) in
        let none_here : count_here ≡ 0 = omega (arith, below) in
        rw a (rest ∙ ap (λ k. down_from k (min top range.1)) none
        ∙ sym (ap (λ k. down_from k (min (suc top) range.1)) none_here))

-- ---- the hits of a segment

module _ (range : Option (ℕ × ℕ)) (lo hi : ℕ) (bounds : ℕ × ℕ) (is : bounds ≡ unwrap_or range (0, hi)) where
  -- the revision after which those in the range begin, and the last one
  abbrev pub lo_in : ℕ
  lo_in = max lo (bounds.0 - 1)

  abbrev pub hi_in : ℕ
  hi_in = min hi bounds.1

  filter-in_range : filter (is_in_range range) (down_from (hi - lo) hi) ≡ down_from (hi_in - lo_in) hi_in
  filter-in_range = by range is
    where
      by : (o : Option (ℕ × ℕ)) → bounds ≡ unwrap_or o (0, hi)
          → filter (is_in_range o) (down_from (hi - lo) hi) ≡ down_from (hi_in - lo_in) hi_in
      by None whole =
          let count : hi - lo ≡ hi_in - lo_in = omega (arith, ap (λ b. b.0) whole, ap (λ b. b.1) whole) in
          let last : hi ≡ hi_in = omega (arith, ap (λ b. b.1) whole) in
          filter-all (down_from (hi - lo) hi) ∙ ap₂ down_from count last
      by (Some some) same =
          let count : min hi some.1 - max (hi - (hi - lo)) (some.0 - 1) ≡ hi_in - lo_in =
          omega (arith, ap (λ b. b.0) same, ap (λ b. b.1) same) in
          let last : min hi some.1 ≡ hi_in = omega (arith, ap (λ b. b.1) same) in
          filter_range-down_from some (hi - lo) hi (omega arith) ∙ ap₂ down_from count last

  -- the first revision, if it is in the range
  filter-first_revision : (first : Bool) → first ≡ (nat_lt 0 lo && is_in_range range lo)
      → filter (is_in_range range) (first_revision lo) ≡ (if first then lo ∷ [] else [])
  filter-first_revision first so = by (nat_lt 0 lo) refl (is_in_range range lo) refl so
    where
      by : (a : Bool) → nat_lt 0 lo ≡ a → (b : Bool) → is_in_range range lo ≡ b → first ≡ (a && b)
          → filter (is_in_range range) (first_revision lo) ≡ (if first then lo ∷ [] else [])
      by true a true b e = rw (a, b, e) refl
      by true a false b e = rw (a, b, e) refl
      by false a b is_b e = rw (a, e) refl

  filter-hits_in : (path : List NameId) (records : List NodeRecord) (index : ℕ) (first : Bool)
      → first ≡ (nat_lt 0 lo && is_in_range range lo)
      → filter (λ (hit : Hit). is_in_range range hit.rev)
      (map (hit_at index) (named_revisions path lo hi records ++ first_revision lo))
      ≡ map (hit_at index) (named_revisions path lo_in hi_in records) ++ (if first then hit_at index lo ∷ [] else [])
  filter-hits_in path records index first so =
      let test = is_in_range range in
      let named = named_revisions path lo hi records in
      filter-hits_at test index (named ++ first_revision lo)
      ∙ ap (map (hit_at index)) (filter-append test named (first_revision lo)
      ∙ ap₂ (λ later begin. later ++ begin)
      (filter-filter test (is_named_in path records) (down_from (hi - lo) hi) ∙ ap (filter (is_named_in path records)) filter-in_range)
      (filter-first_revision first so))
      ∙ map-append (hit_at index) (named_revisions path lo_in hi_in records) (if first then lo ∷ [] else [])
      ∙ ap (λ more. map (hit_at index) (named_revisions path lo_in hi_in records) ++ more) (by first)
    where
      by : (b : Bool) → map (hit_at index) (if b then lo ∷ [] else []) ≡ (if b then hit_at index lo ∷ [] else [])
      by true = refl
      by false = refl

  -- those of the later revisions, and then the first one, if it is in the range
  pub hits-in_range : (path : List NameId) (records : List NodeRecord) (index from to : ℕ) (first : Bool) (old named : List Hit)
      → from ≡ lo_in → to ≡ hi_in → named ≡ old ++ map (hit_at index) (named_revisions path from to records)
      → first ≡ (nat_lt 0 lo && is_in_range range lo)
      → named ++ (if first then hit_at index lo ∷ [] else [])
      ≡ old ++ filter (λ (hit : Hit). is_in_range range hit.rev)
      (map (hit_at index) (named_revisions path lo hi records ++ first_revision lo))
  hits-in_range path records index from to first old named from_is to_is named_are so =
      let begin = if first then hit_at index lo ∷ [] else [] in
      ap (λ front. front ++ begin)
      (named_are ∙ ap₂ (λ a b. old ++ map (hit_at index) (named_revisions path a b records)) from_is to_is)
      ∙ append_assoc old (map (hit_at index) (named_revisions path lo_in hi_in records)) begin
      ∙ ap (λ more. old ++ more) (sym (filter-hits_in path records index first so))
