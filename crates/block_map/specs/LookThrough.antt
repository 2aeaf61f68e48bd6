-- What later records found, by the records before them. As in `Look`, a tick is a number of records, and so is the
-- number of a copy's source.
use Rattle.std.specs.Prelude.{ℕ, ◌+◌, ◌≤◌, nat_le, Bool, List, length, if◌then◌else◌}
use Rattle.svn_dump.specs.History.{Record}
use Rattle.block_map.specs.Look.{Found, at, at_with, is, absent, Look, look, with_mergeinfo}

-- a path at a tick: what the records say of it, unless the tick is past them
abbrev pub look_from : {C M : Type 0} → (C → C → Bool) → ℕ → List (Record C M) → ℕ → Look C M
look_from same lo records tick path =
    if nat_le tick (lo + length records) then look same lo records tick path else at path tick

-- what was found at a path at a tick is what the records say of it
abbrev pub look_through : {C M : Type 0} → (C → C → Bool) → ℕ → List (Record C M) → Found C M → Found C M
look_through same lo records (at path tick) = look_from same lo records tick path
look_through same lo records (at_with path tick mergeinfo) = with_mergeinfo mergeinfo (look_from same lo records tick path)
look_through same lo records (is kind mergeinfo) = is kind mergeinfo
look_through same lo records absent = absent

-- if it is what stood somewhere, the tick is not past this one
abbrev pub IsFoundUpTo : {C M : Type 0} → ℕ → Found C M → Type 0
IsFoundUpTo last (at path tick) = tick ≤ last
IsFoundUpTo last (at_with path tick mergeinfo) = tick ≤ last
IsFoundUpTo last (is kind mergeinfo) = Unit {0}
IsFoundUpTo last absent = Unit {0}
