-- The texts of the tests, `/a:1` and `x`.
use Rattle.std.proofs.Common.{ℕ, List, [], ◌∷◌}

abbrev pub two_texts : List (List ℕ)
two_texts = (47 ∷ 97 ∷ 58 ∷ 49 ∷ []) ∷ (120 ∷ []) ∷ []
