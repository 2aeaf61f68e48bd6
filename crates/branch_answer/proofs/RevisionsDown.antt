-- The revisions that pass a test, from a lowest one up to below a bound.
use Rattle.std.proofs.Common.{◌≡◌, ◌∙◌, ℕ, zero, suc, ◌+◌, ◌-◌, ◌<◌, ◌≤◌, ◌==◌, pred, Bool, true, false, not, All, List, [], ◌∷◌, ◌++◌, ap, arith, filter, length, refl}
use Rattle.std.proofs.lemmas.List.Elements.{All-cons, All-filter, filter-append}
use Rattle.path_index.proofs.DownFrom.{down_from-append, filter_down-none, filter_down-same}
use Rattle.path_index.specs.Operative.{down_from}

-- a single number
pub is_empty-one : (p : ℕ → Bool) (n top : ℕ) → n ≡ 1 → (length (filter p (down_from n top)) == 0) ≡ not (p top)
is_empty-one p n top one = ap (λ count. length (filter p (down_from count top)) == 0) one ∙ by (p top) refl
  where
    by : (b : Bool) → p top ≡ b → (length (filter p (top ∷ [])) == 0) ≡ not (p top)
    by true is = rw is refl
    by false is = rw is refl

-- what is true of each of the numbers
All-down_from : (P : ℕ → Type 0) (n top : ℕ) → n ≤ top + 1 → ((k : ℕ) → k ≤ top → top < k + n → P k) → All P (down_from n top)
All-down_from P zero top few each = λ k d within. absurd (omega (arith, within))
All-down_from P (suc n) top few each =
    All-cons P top (down_from n (pred top)) (each top (omega arith) (omega arith))
    (All-down_from P n (pred top) (omega (arith, few)) (λ k up within. each k (omega (arith, up)) (omega (arith, few, up, within))))

module _ (p : ℕ → Bool) where
  -- the greatest first
  abbrev pub passing_below : ℕ → ℕ → List ℕ
  passing_below lo bound = filter p (down_from (bound - lo) (pred bound))

  pub All-passing_below : (P : ℕ → Type 0) (lo bound : ℕ) → ((rev : ℕ) → lo ≤ rev → rev < bound → P rev) → All P (passing_below lo bound)
  All-passing_below P lo bound each =
      All-filter p P (down_from (bound - lo) (pred bound))
      (All-down_from P (bound - lo) (pred bound) (omega arith) (λ k up within. each k (omega (arith, up, within)) (omega (arith, up, within))))

  pub passing_below-none : (lo bound : ℕ) → ((rev : ℕ) → lo ≤ rev → rev < bound → p rev ≡ false) → passing_below lo bound ≡ []
  passing_below-none lo bound fails =
      filter_down-none p (bound - lo) (pred bound) (omega arith) (λ k up within. fails k (omega (arith, up, within)) (omega (arith, up, within)))

  pub passing_below-split : (lo mid bound : ℕ) → lo ≤ mid → mid ≤ bound → passing_below lo bound ≡ passing_below mid bound ++ passing_below lo mid
  passing_below-split lo mid bound low high =
      let n = bound - mid in
      let top : pred bound - n ≡ pred mid = omega (arith, low, high) in
      ap (filter p) (down_from-append n (mid - lo) (bound - lo) (pred bound) (omega (arith, low, high)))
      ∙ filter-append p (down_from n (pred bound)) (down_from (mid - lo) (pred bound - n))
      ∙ ap (λ last. passing_below mid bound ++ filter p (down_from (mid - lo) last)) top

  -- where none passes from a middle one on
  pub passing_below-skip : (lo mid bound : ℕ) → lo ≤ mid → mid ≤ bound → ((rev : ℕ) → mid ≤ rev → rev < bound → p rev ≡ false)
      → passing_below lo bound ≡ passing_below lo mid
  passing_below-skip lo mid bound low high fails =
      passing_below-split lo mid bound low high ∙ ap (λ front. front ++ passing_below lo mid) (passing_below-none mid bound fails)

-- two tests that agree on them
pub passing_below-same : (p q : ℕ → Bool) (lo bound : ℕ) → ((rev : ℕ) → lo ≤ rev → rev < bound → p rev ≡ q rev) → passing_below p lo bound ≡ passing_below q lo bound
passing_below-same p q lo bound agree =
    filter_down-same p q (bound - lo) (pred bound) (omega arith) (λ k up within. agree k (omega (arith, up, within)) (omega (arith, up, within)))
