-- Items that are made by their numbers.
use Rattle.std.specs.Prelude.{ℕ, ◌<◌, List, length, slice_index_or}

-- the item at each index is one that there may be of that number
abbrev pub AreMade : {K M : Type 0} → (K → ℕ → M → Type 0) → K → List M → Type 0
AreMade {K} {M} gives maker made = (i : ℕ) (d : M) → i < length made → gives maker i (slice_index_or made i d)
