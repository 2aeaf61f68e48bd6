-- The state of a sweep over runs in the order of their first numbers.
use Rattle.std.specs.Prelude.{ℕ, ◌<◌, ◌≤◌, true, false, List, [], ◌∷◌, ◌++◌, All}
use Rattle.range_list.specs.Rangelist.{IsCanonical}
use Rattle.svn_text.specs.Number.{greatest_revision}
use Rattle.range_list.specs.declared.run.Run.{Run}
use Rattle.range_list.specs.declared.sweep.Sweep.{Sweep}

-- every run ends below the number
abbrev pub EndsBelow : ℕ → List Run → Type 0
EndsBelow n runs = All (λ run. run.hi < n) runs

-- the numbers of the finished runs, and those from the cursor on, which are still to be put into runs
abbrev pub runs_of : Sweep → List Run
runs_of s =
    let inheritable : Run = record { lo = s.cursor; hi = s.inheritable_to; inheritable = true } in
    let non_inheritable : Run = record { lo = s.cursor; hi = s.non_inheritable_to; inheritable = false } in
    s.done.items ++ inheritable ∷ non_inheritable ∷ []

pub record IsSweep (s : Sweep) : Type 0 where
  pub first : 1 ≤ s.cursor
  pub inheritable_last : s.inheritable_to ≤ greatest_revision
  pub non_inheritable_last : s.non_inheritable_to ≤ greatest_revision
  pub canonical : IsCanonical s.done.items
  pub below : EndsBelow s.cursor s.done.items
