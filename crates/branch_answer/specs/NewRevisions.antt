-- The revisions of which one path holds more than another one: what is new in a branch (Subversion book, "Branching and
-- Merging", "Mergeinfo and Previews").
use Rattle.std.specs.Prelude.{◌≡◌, ◌⊎◌, ℕ, ◌-◌, nat_lt, Bool, true, false, List, [], ◌∷◌, ◌++◌, Option, Some, None, codes, decimal, length, map, if◌then◌else◌}
use Rattle.range_list.specs.Canonical.{canonical_runs, run_of_one}
use Rattle.range_list.specs.Rangelist.{is_in}
use Rattle.range_list.specs.Text.{rangelist_text}
use Rattle.range_list.specs.declared.run.Run.{Run}
use Rattle.merge_info.specs.Value.{MergeInfoValue}
use Rattle.svn_dump.specs.Record.{HistoryOfBytes}
use Rattle.query_answer.specs.Answer.{TreesOfBytes}
use Rattle.query_answer.specs.Peg.{Peg}
use Rattle.branch_answer.specs.Holding.{Holding, holding_at, in_history, in_part, in_part_below, merged, those_held}

-- ---- how much is held

-- all of the revision is held
abbrev pub is_whole : Holding → Bool
is_whole in_history = true
is_whole merged = true
is_whole in_part = false
is_whole (in_part_below path) = false

-- a greater number where more of the revision is held
abbrev pub extent : Option Holding → ℕ
extent None = 0
extent (Some (in_part_below path)) = 1
extent (Some in_part) = 2
extent (Some merged) = 3
extent (Some in_history) = 3

-- the second way of holding a revision, if more of it is held than by the first one
abbrev pub more_held : Option Holding → Option Holding → Option Holding
more_held one other = if nat_lt (extent one) (extent other) then other else None

-- ---- what is new

-- a peg, and the mergeinfo that holds for it
pub record Holder : Type 0 where
  pub peg : Peg
  pub value : MergeInfoValue

module _ (history : HistoryOfBytes) (trees : TreesOfBytes) where
  abbrev pub holding_by_holder : Holder → ℕ → Option Holding
  holding_by_holder holder rev = holding_at history trees holder.peg holder.value rev

  -- how the other one holds a revision of which it holds more, unless the revision doesn't count
  abbrev pub new_holding : Holder → Holder → List Run → ℕ → Option Holding
  new_holding one other uncounted rev =
      if is_in uncounted rev then None else more_held (holding_by_holder one rev) (holding_by_holder other rev)

  -- the revisions of a range that are new in the other one, the newest first, each with how it holds it
  abbrev pub new_in : Holder → Holder → ℕ × ℕ → List Run → List (ℕ × Holding)
  new_in one other range uncounted = those_held (new_holding one other uncounted) range

  -- the numbers of those that are new in the other one, and of those that are new in the first one
  abbrev pub distance_line : Holder → Holder → ℕ × ℕ → List Run → List ℕ
  distance_line one other range uncounted =
      decimal (length (new_in one other range uncounted)) ++ codes " " ++ decimal (length (new_in other one range uncounted))

-- all revisions of a history
abbrev pub all_revisions : TreesOfBytes → ℕ × ℕ
all_revisions trees = (0, length trees - 1)

-- ---- as a rangelist

-- a run of one revision, which is inheritable where all of it is held
abbrev pub run_of_held : ℕ × Holding → Run
run_of_held held = run_of_one held.0 (is_whole held.1)

-- the rangelist of revisions, unless there are none
abbrev pub rangelist_lines : List (ℕ × Holding) → List (List ℕ)
rangelist_lines [] = []
rangelist_lines (held ∷ others) = rangelist_text (canonical_runs (map run_of_held (held ∷ others))) ∷ []

-- ---- laws

-- a path holds nothing that it doesn't hold itself
abbrev pub NothingIsNew : HistoryOfBytes → TreesOfBytes → Type 0
NothingIsNew history trees = (one : Holder) (range : ℕ × ℕ) (uncounted : List Run) → new_in history trees one one range uncounted ≡ []

-- a revision is new in one direction alone
abbrev pub NewOneWay : HistoryOfBytes → TreesOfBytes → Type 0
NewOneWay history trees =
    (one other : Holder) (uncounted : List Run) (rev : ℕ)
    → (new_holding history trees one other uncounted rev ≡ None) ⊎ (new_holding history trees other one uncounted rev ≡ None)
