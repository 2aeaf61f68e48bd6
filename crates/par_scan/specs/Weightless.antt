-- Elements without weight.
use Rattle.std.proofs.Common.{◌≡◌, List, [], ◌∷◌, arith, refl}
use Rattle.std.proofs.lemmas.List.Sums.{sum_by-cons}
use Rattle.std.specs.List.{sum_by}

-- they weigh nothing together
pub no_weight : {M : Type 0} (items : List M) → 0 ≡ sum_by (λ (x : M). 0) items
no_weight [] = refl
no_weight (x ∷ xs) = omega (arith, no_weight xs, sum_by-cons (λ (y : _). 0) x xs)
