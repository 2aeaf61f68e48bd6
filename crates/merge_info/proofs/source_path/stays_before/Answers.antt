use Rattle.merge_info.proofs.Common.{◌≡◌, ℕ, false, List, [], ◌∷◌, drop, refl, arith, common_steps, stays_before}
use Rattle.merge_info.proofs.source_path.stays_before.Goals as goal

-- the next path does not go on
stays_before-none : (path : List ℕ) → stays_before path [] ≡ false
stays_before-none [] = refl
stays_before-none (byte ∷ path) = refl

pub returns-else-i-next-2 : goal.returns-else-i-next-2
returns-else-i-next-2 c =
    let none = stays_before-none (drop c.loop-i.i c.args.path.now) in
    grind (arith, common_steps)
