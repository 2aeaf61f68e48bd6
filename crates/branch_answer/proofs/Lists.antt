-- What is found of numbers downwards.
use Rattle.std.proofs.Common.{◌≡◌, ◌∙◌, ℕ, zero, suc, pred, ◌+◌, ◌<◌, ◌≤◌, [], Option, None, filter_map, refl, ap₂, arith}
use Rattle.std.specs.List.{cons_option}
use Rattle.path_index.specs.Operative.{down_from}

-- the same is found of each of them
pub filter_map_down-same : {A : Type 0} (f g : ℕ → Option A) (n top : ℕ) → ((each : ℕ) → each ≤ top → top < each + n → f each ≡ g each)
    → filter_map f (down_from n top) ≡ filter_map g (down_from n top)
filter_map_down-same f g zero top same = refl
filter_map_down-same f g (suc n) zero same =
    ap₂ cons_option (same 0 (omega arith) (omega arith)) (filter_map_down-same f g n 0 (λ each to from. same each to (omega (arith, from))))
filter_map_down-same f g (suc n) (suc top) same =
    ap₂ cons_option (same (suc top) (omega arith) (omega arith))
    (filter_map_down-same f g n top (λ each to from. same each (omega (arith, to)) (omega (arith, from))))

-- nothing is found of any of them
pub filter_map_down-none : {A : Type 0} (f : ℕ → Option A) (n top : ℕ) → ((each : ℕ) → each ≤ top → top < each + n → f each ≡ None) → filter_map f (down_from n top) ≡ []
filter_map_down-none {A = A} f n top none = filter_map_down-same f (λ each. None) n top none ∙ nothing n top
  where
    nothing : (n top : ℕ) → filter_map {Y = A} (λ each. None) (down_from n top) ≡ []
    nothing zero top = refl
    nothing (suc n) top = nothing n (pred top)
