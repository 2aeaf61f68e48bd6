-- The range of a query: two revisions with a colon between them, of which the first isn't above the second.
use Rattle.std.specs.Prelude.{ℕ, ◌==◌, nat_le, Bool, List, Option, Some, None, option_and_then, if◌then◌else◌}
use Rattle.std.specs.List.{list_any, before_first, after_first}
use Rattle.svn_text.specs.Number.{number_up_to, greatest_revision}

abbrev pub is_colon : ℕ → Bool
is_colon byte = byte == 58

-- the range from a revision to another one, unless they stand the other way round
abbrev pub range_from : ℕ → ℕ → Option (ℕ × ℕ)
range_from lo hi = if nat_le lo hi then Some (lo, hi) else None

-- what precedes the first colon of a field, and what follows it
abbrev pub range_of : List ℕ → Option (ℕ × ℕ)
range_of field =
    if list_any is_colon field
    then option_and_then
    (λ lo. option_and_then (range_from lo) (number_up_to greatest_revision (after_first is_colon field)))
    (number_up_to greatest_revision (before_first is_colon field))
    else None
