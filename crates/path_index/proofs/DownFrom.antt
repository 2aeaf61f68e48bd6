-- Numbers downwards, and those of them that pass a test.
use Rattle.path_index.proofs.Common.{◌≡◌, ℕ, zero, suc, pred, ◌+◌, ◌-◌, ◌<◌, ◌≤◌, Bool, false, [], ◌∷◌, ◌++◌, filter, refl, ap, ap₂, ◌∙◌, arith, down_from}

-- n numbers and m more
pub down_from-append : (n m k top : ℕ) → k ≡ n + m → down_from k top ≡ down_from n top ++ down_from m (top - n)
down_from-append zero m k top is = let count : k ≡ m = omega (arith, is) in let same : top ≡ top - 0 = omega arith in ap₂ down_from count same
down_from-append (suc n) m zero top is = absurd (omega (arith, is))
down_from-append (suc n) m (suc k) top is =
    let same : pred top - n ≡ top - suc n = omega arith in
    ap (λ rest. top ∷ rest) (down_from-append n m k (pred top) (omega (arith, is)) ∙ ap (λ last. down_from n (pred top) ++ down_from m last) same)

-- one more
pub down_from_more : (n top : ℕ) → down_from (suc n) top ≡ down_from n top ++ (top - n) ∷ []
down_from_more n top = down_from-append n 1 (suc n) top (omega arith)

-- two tests that agree at each of the numbers keep the same
pub filter_down-same : (p q : ℕ → Bool) (n top : ℕ) → n ≤ top + 1 → ((k : ℕ) → k ≤ top → top < k + n → p k ≡ q k)
    → filter p (down_from n top) ≡ filter q (down_from n top)
filter_down-same p q zero top few agree = refl
filter_down-same p q (suc zero) top few agree = rw (agree top (omega arith) (omega arith)) refl
filter_down-same p q (suc (suc n)) zero few agree = absurd (omega arith)
filter_down-same p q (suc (suc n)) (suc top) few agree =
    let rest = filter_down-same p q (suc n) top (omega arith) (λ k up within. agree k (omega arith) (omega arith)) in
    rw (agree (suc top) (omega arith) (omega arith), rest) refl

-- a test that fails at each of them keeps none
pub filter_down-none : (p : ℕ → Bool) (n top : ℕ) → n ≤ top + 1 → ((k : ℕ) → k ≤ top → top < k + n → p k ≡ false) → filter p (down_from n top) ≡ []
filter_down-none p n top few fails = filter_down-same p (λ k. false) n top few fails ∙ none n top
  where
    none : (n top : ℕ) → filter (λ k. false) (down_from n top) ≡ []
    none zero top = refl
    none (suc n) top = none n (pred top)
