-- How a path holds a revision, as it is kept: by the place of a path below in a list.
use Rattle.std.specs.Prelude.{◌≡◌, ℕ, nat_lt, Bool, List, [], Option, Some, None, slice_index_or, if◌then◌else◌}
use Rattle.branch_answer.specs.Holding.{Holding, in_history, in_part, in_part_below, merged}
use Rattle.branch_answer.specs.declared.holding.Holding.{Holding as KeptHolding}
use Rattle.branch_answer.specs.declared.holding.Holding.TheVariants.{Below, InHistory, InPart, Merged, Not}

-- how it is held, given the texts of the paths below
abbrev pub holding_view : List (List ℕ) → KeptHolding → Option Holding
holding_view below Not = None
holding_view below (Below index) = Some (in_part_below (slice_index_or below index []))
holding_view below InPart = Some in_part
holding_view below Merged = Some merged
holding_view below InHistory = Some in_history

abbrev pub strength : KeptHolding → ℕ
strength Not = 0
strength (Below index) = 1
strength InPart = 2
strength Merged = 3
strength InHistory = 4

-- the stronger of two, and the first one where they are as strong
abbrev pub stronger : KeptHolding → KeptHolding → KeptHolding
stronger one other = if nat_lt (strength one) (strength other) then other else one

-- ---- by what mergeinfo has

-- one where mergeinfo has the revision as inheritable, and one where it has it otherwise
abbrev pub holding_by : KeptHolding → KeptHolding → Option Bool → KeptHolding
holding_by whole part None = Not
holding_by whole part (Some inheritable) = if inheritable then whole else part

-- the first is as strong as the second one, and takes its place
pub record Overrides (whole part : KeptHolding) : Type 0 where
  pub after : stronger part whole ≡ whole
  pub before : stronger whole part ≡ whole
