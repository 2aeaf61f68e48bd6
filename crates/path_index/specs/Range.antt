-- Ranges of revisions, to which what is answered may be limited.
use Rattle.std.specs.Prelude.{ℕ, nat_le, Bool, true, ◌&&◌, Option, None, Some}

-- the revision is one of the range, with both ends; without a range each one is
abbrev pub is_in_range : Option (ℕ × ℕ) → ℕ → Bool
is_in_range None rev = true
is_in_range (Some range) rev = nat_le range.0 rev && nat_le rev range.1
