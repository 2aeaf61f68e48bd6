-- The number that a count shows.
use Rattle.std.specs.Prelude.{ℕ, ◌+◌, Option, Some, None}
use Rattle.std.specs.declared.snapshot.Snapshot.{Snapshot}

abbrev pub count_after : Option (Snapshot ℕ) → ℕ
count_after None = 0
count_after (Some before) = before.value + 1
