-- Two canonical lists with the same numbers are equal.
use Rattle.std.proofs.Common.{◌≡◌, ℕ, ◌+◌, ◌<◌, ◌≤◌, Bool, true, false, ◌||◌, List, [], ◌∷◌, refl, sym, ap, ◌∙◌, inl, inr, arith}
use Rattle.std.proofs.lemmas.Bool.{cases_lt, true≢false}
use Rattle.range_list.specs.Rangelist.{is_in, is_inheritable, HasSameNumbers, IsCanonical}
use Rattle.range_list.specs.declared.run.Run.{Run}
use Rattle.range_list.proofs.Canonical.{BeginsFrom-tail, IsCanonical-head, IsCanonical-apart, IsCanonical-tail, IsOut-below}
use Rattle.range_list.proofs.Same.{covers-above, covers-within, HasSameNumbers-sym, and_or, and_or_false}

-- a number of the first run
record IsFirst (run : Run) (runs : List Run) (n : ℕ) : Type 0 where
  pub is_in : is_in (run ∷ runs) n ≡ true
  pub is_inheritable : is_inheritable (run ∷ runs) n ≡ run.inheritable

IsFirst-from : (run : Run) (runs : List Run) (n : ℕ) → IsCanonical (run ∷ runs) → run.lo ≤ n → n ≤ run.hi → IsFirst run runs n
IsFirst-from run runs n canonical from to =
    let covered = covers-within run n from to in
    let rest = IsOut-below runs (run.hi + 1) n (IsCanonical-tail run runs canonical) (BeginsFrom-tail run runs canonical) (omega arith) in
    record { is_in = ap (λ b. b || is_in runs n) covered; is_inheritable = and_or run.inheritable _ _ covered rest.not_inheritable }

-- a number above the first run
record IsLater (run : Run) (runs : List Run) (n : ℕ) : Type 0 where
  pub is_in : is_in (run ∷ runs) n ≡ is_in runs n
  pub is_inheritable : is_inheritable (run ∷ runs) n ≡ is_inheritable runs n

IsLater-from : (run : Run) (runs : List Run) (n : ℕ) → run.hi < n → IsLater run runs n
IsLater-from run runs n above =
    let uncovered = covers-above run n above in
    record { is_in = ap (λ b. b || is_in runs n) uncovered; is_inheritable = and_or_false run.inheritable _ _ uncovered }

-- a number is in one list and not in the other
no_number : (a b : List Run) (n : ℕ) → HasSameNumbers a b → is_in a n ≡ true → is_in b n ≡ false → ⊥
no_number a b n same has lacks = true≢false (sym has ∙ (same n).0 ∙ lacks)

module _ (x y : Run) (xs ys : List Run) (canonical_x : IsCanonical (x ∷ xs)) (canonical_y : IsCanonical (y ∷ ys)) (same : HasSameNumbers (x ∷ xs) (y ∷ ys)) where
  -- neither begins before the other
  begins_no_later : x.lo < y.lo → ⊥
  begins_no_later before =
      let is_x = IsCanonical-head x xs canonical_x in
      let first = IsFirst-from x xs x.lo canonical_x (omega arith) is_x.ordered in
      let out = IsOut-below (y ∷ ys) y.lo x.lo canonical_y (omega arith) before in
      no_number (x ∷ xs) (y ∷ ys) x.lo same first.is_in out.out

  module _ (same_lo : x.lo ≡ y.lo) where
    same_sort : x.inheritable ≡ y.inheritable
    same_sort =
        let first = IsFirst-from x xs x.lo canonical_x (omega arith) (IsCanonical-head x xs canonical_x).ordered in
        let other = IsFirst-from y ys x.lo canonical_y (omega arith) (omega (arith, (IsCanonical-head y ys canonical_y).ordered)) in
        sym first.is_inheritable ∙ (same x.lo).1 ∙ other.is_inheritable

    -- the number after the end of the first is not in the other first run: the next run would continue the first
    ends_no_earlier : x.hi < y.hi → ⊥
    ends_no_earlier shorter =
        let n = x.hi + 1 in
        let later = IsLater-from x xs n (omega arith) in
        let first = IsFirst-from y ys n canonical_y (omega (arith, (IsCanonical-head x xs canonical_x).ordered)) (omega arith) in
        continues x xs y.inheritable canonical_x (sym later.is_in ∙ (same n).0 ∙ first.is_in) (sym later.is_inheritable ∙ (same n).1 ∙ first.is_inheritable) same_sort
      where
        continues : (x : Run) (xs : List Run) (sort : Bool) → IsCanonical (x ∷ xs) → is_in xs (x.hi + 1) ≡ true → is_inheritable xs (x.hi + 1) ≡ sort → x.inheritable ≡ sort → ⊥
        continues x [] sort canonical has inherits like = true≢false (sym has)
        continues x (z ∷ zs) sort canonical has inherits like =
            let apart = IsCanonical-apart x (z ∷ zs) canonical in
            let is_z = IsCanonical-head z zs canonical.2 in
            elim (cases_lt (x.hi + 1) z.lo) [
              | inl below ↦ true≢false (sym has ∙ (IsOut-below (z ∷ zs) z.lo (x.hi + 1) canonical.2 (omega arith) below).out)
              | inr reached ↦
                  let touches : x.hi + 1 ≡ z.lo = omega (arith, apart.after) in
                  let first = IsFirst-from z zs (x.hi + 1) canonical.2 (omega arith) (omega (arith, is_z.ordered)) in
                  apart.maximal touches (like ∙ sym inherits ∙ first.is_inheritable)
            ]

    same_tail : x.hi ≡ y.hi → HasSameNumbers xs ys
    same_tail same_hi n = elim (cases_lt x.hi n) [
      | inl above ↦
          let later = IsLater-from x xs n above in
          let other = IsLater-from y ys n (omega arith) in
          (sym later.is_in ∙ (same n).0 ∙ other.is_in, sym later.is_inheritable ∙ (same n).1 ∙ other.is_inheritable)
      | inr within ↦
          let out = IsOut-below xs (x.hi + 1) n (IsCanonical-tail x xs canonical_x) (BeginsFrom-tail x xs canonical_x) (omega arith) in
          let other = IsOut-below ys (y.hi + 1) n (IsCanonical-tail y ys canonical_y) (BeginsFrom-tail y ys canonical_y) (omega arith) in
          (out.out ∙ sym other.out, out.not_inheritable ∙ sym other.not_inheritable)
    ]

same_run : (x y : Run) → x.lo ≡ y.lo → x.hi ≡ y.hi → x.inheritable ≡ y.inheritable → x ≡ y
same_run x y lo hi sort =
    let begun : x ≡ record x { lo = y.lo } = ap (λ (n : ℕ). let run : Run = record x { lo = n } in run) lo in
    let ended : record x { lo = y.lo } ≡ record y { inheritable = x.inheritable } = ap (λ (n : ℕ). let run : Run = record { lo = y.lo; hi = n; inheritable = x.inheritable } in run) hi in
    begun ∙ ended ∙ ap (λ (b : Bool). let run : Run = record y { inheritable = b } in run) sort

-- one canonical list for each set
pub only_canonical : (a b : List Run) → IsCanonical a → IsCanonical b → HasSameNumbers a b → a ≡ b
only_canonical [] [] canonical_a canonical_b same = refl
only_canonical [] (y ∷ ys) canonical_a canonical_b same =
    let first = IsFirst-from y ys y.lo canonical_b (omega arith) (IsCanonical-head y ys canonical_b).ordered in
    absurd (no_number (y ∷ ys) [] y.lo (HasSameNumbers-sym [] (y ∷ ys) same) first.is_in refl)
only_canonical (x ∷ xs) [] canonical_a canonical_b same =
    let first = IsFirst-from x xs x.lo canonical_a (omega arith) (IsCanonical-head x xs canonical_a).ordered in
    absurd (no_number (x ∷ xs) [] x.lo same first.is_in refl)
only_canonical (x ∷ xs) (y ∷ ys) canonical_a canonical_b same =
    let back = HasSameNumbers-sym (x ∷ xs) (y ∷ ys) same in
    let no_later = begins_no_later x y xs ys canonical_a canonical_b same in
    let no_sooner = begins_no_later y x ys xs canonical_b canonical_a back in
    let lo : x.lo ≡ y.lo = omega (arith, no_later, no_sooner) in
    let no_shorter = ends_no_earlier x y xs ys canonical_a canonical_b same lo in
    let no_longer = ends_no_earlier y x ys xs canonical_b canonical_a back (sym lo) in
    let hi : x.hi ≡ y.hi = omega (arith, no_shorter, no_longer) in
    let first = same_run x y lo hi (same_sort x y xs ys canonical_a canonical_b same lo) in
    let rest = only_canonical xs ys (IsCanonical-tail x xs canonical_a) (IsCanonical-tail y ys canonical_b) (same_tail x y xs ys canonical_a canonical_b same lo hi) in
    ap (λ run. run ∷ xs) first ∙ ap (λ runs. y ∷ runs) rest
