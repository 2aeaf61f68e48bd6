-- How a sum acts.
use Rattle.std.proofs.Common.{◌≡◌, ℕ, ◌+◌, List, [], ◌∷◌, arith, refl}
use Rattle.std.specs.List.{sum_by}
use Rattle.std.proofs.lemmas.List.Sums.{sum_by-cons}
use Rattle.par_scan.specs.Chain.{ActsAsAll, act_all}
use Rattle.par_scan.specs.declared.sum.Sum.{Sum}

-- a sum adds its number
abbrev pub add_sum : Sum → ℕ → ℕ
add_sum sum point = sum.0 + point

-- a sum stands between no borders
abbrev pub no_border : Sum → ℕ
no_border sum = 0

abbrev pub sum_weight : Sum → ℕ
sum_weight sum = sum.0

-- all sums together add what they weigh
sums_weigh : (items : List Sum) → act_all add_sum items 0 ≡ sum_by sum_weight items
sums_weigh [] = refl
sums_weigh (first ∷ rest) = omega (arith, sum_by-cons sum_weight first rest, sums_weigh rest)

pub sum_weighs : (items : List Sum) (joined : Sum) → ActsAsAll add_sum items joined → sum_weight joined ≡ sum_by sum_weight items
sum_weighs items joined acts = omega (arith, acts 0, sums_weigh items)
