-- What cutting bytes at the first or the last of a byte gives.
use Rattle.std.specs.Prelude.{◌≡◌, ℕ, ◌==◌, false, List, ◌∷◌, ◌++◌, All, IsTrue, IsFalse}
use Rattle.std.specs.List.{list_any, before_first, after_first}

-- none of the bytes is that one
abbrev pub Lacks : ℕ → List ℕ → Type 0
Lacks byte bytes = All (λ each. (each == byte) ≡ false) bytes

-- the bytes are a front without such a byte, that byte, and what stands after it
pub record IsCutAt (byte : ℕ) (bytes front rest : List ℕ) : Type 0 where
  pub there : IsTrue (list_any (λ each. each == byte) bytes)
  pub before : front ≡ before_first (λ each. each == byte) bytes
  pub after : rest ≡ after_first (λ each. each == byte) bytes
  pub first : IsFalse (list_any (λ each. each == byte) front)
  pub whole : bytes ≡ front ++ byte ∷ rest

-- the bytes are a front, such a byte, and what stands after it without another
pub record IsCutAtLast (byte : ℕ) (bytes front back : List ℕ) : Type 0 where
  pub whole : bytes ≡ front ++ byte ∷ back
  pub last : Lacks byte back
