-- What arguments ask for nothing.
use Rattle.std.proofs.Common.{◌≡◌, ℕ, List, [], ◌∷◌, Some, map, refl}
use Rattle.devices.specs.Device.{PullState}
use Rattle.svnhist.specs.Arguments.{ArgumentsValue, IsArguments}
use Rattle.svnhist.specs.Asked.{IsMisused}

-- some that are wrong
pub IsMisused-wrong : (texts : List (List ℕ)) (old new : PullState) → (texts ≡ [] → ⊥)
    → ((asked : ArgumentsValue) → IsArguments texts asked → ⊥) → IsMisused (Some texts) old new
IsMisused-wrong [] old new some wrong = absurd (some refl)
IsMisused-wrong (text ∷ texts) old new some wrong = wrong

-- arguments that are there are some as bytes
pub map-some : {A B : Type 0} (f : A → B) (xs : List A) → (xs ≡ [] → ⊥) → map f xs ≡ [] → ⊥
map-some f [] some none = some refl
map-some f (x ∷ xs) some none = cc
