-- Bytes.
use Rattle.std.specs.Prelude.{ℕ, ◌==◌, Bool, true, false, List, [], ◌∷◌}

abbrev pub is_not_empty : List ℕ → Bool
is_not_empty [] = false
is_not_empty (byte ∷ bytes) = true

abbrev pub is_colon : ℕ → Bool
is_colon byte = byte == 58
