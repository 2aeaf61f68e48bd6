-- What a text gives to a hasher.
use Rattle.std.specs.Prelude.{◌≡◌, ℕ, true, List, [], ◌∷◌, bytes_eq}
use Rattle.std.specs.Cmp.Lexicographic.{bytes_decides}
use Rattle.std.specs.Hash.{HashWrites}
use Rattle.std.proofs.Common.{ap}

-- all bytes at once
abbrev pub writes_of : List ℕ → HashWrites
writes_of bytes = bytes ∷ []

-- so equal texts give the same
pub writes_of-same : (a b : List ℕ) → bytes_eq a b ≡ true → writes_of a ≡ writes_of b
writes_of-same a b same = ap writes_of ((bytes_decides a b).0 same)
