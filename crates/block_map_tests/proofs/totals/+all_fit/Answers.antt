use Rattle.std.proofs.Common.{ℕ, ◌<◌, List, [], ◌∷◌, length, arith}
use Rattle.par_scan.specs.Chain.{Meet}
use Rattle.block_map_tests.proofs.totals.+all_fit.Goals as goal

-- fewer than two items have no neighbours
Meet-few : {M : Type 0} (begin end : M → ℕ) (items : List M) → length items < 2 → Meet begin end items
Meet-few begin end [] few = tt
Meet-few begin end (only ∷ []) few = tt
Meet-few begin end (earlier ∷ later ∷ rest) few = absurd (omega (arith, few))

pub returns-in_default : goal.returns-in_default
returns-in_default g t c = λ fit. Meet-few g.M.Acts.begin g.M.Acts.end c.args.items.now c.in_default.len_below
