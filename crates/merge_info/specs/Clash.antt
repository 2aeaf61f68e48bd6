-- The order in which runs are searched for a number that is given both with and without `*`.
use Rattle.std.specs.Prelude.{◌≤◌, List, [], ◌∷◌, All}
use Rattle.range_list.specs.declared.run.Run.{Run}

-- each run begins at or after those before it
abbrev pub IsRisingByFirst : List Run → Type 0
IsRisingByFirst [] = Unit {0}
IsRisingByFirst (run ∷ runs) = All (λ next. run.lo ≤ next.lo) runs × IsRisingByFirst runs
