-- Bytes to which others were appended, all of these or a part.
use Rattle.std.specs.Prelude.{◌≡◌, ℕ, List, length, take}

-- the new bytes begin with the old ones, whatever follows them
pub record BeginsWith (old new : List ℕ) : Type 0 where
  pub front : take (length old) new ≡ old
