-- What holds of the revisions that a path holds, of whatever history.
use Rattle.std.specs.Prelude.{◌≡◌, ℕ, ◌≤◌, Some, filter}
use Rattle.merge_info.specs.Value.{MergeInfoValue}
use Rattle.path_index.specs.Range.{is_in_range}
use Rattle.svn_dump.specs.Record.{HistoryOfBytes}
use Rattle.query_answer.specs.Answer.{TreesOfBytes}
use Rattle.query_answer.specs.Peg.{Peg}
use Rattle.branch_answer.specs.Holding.{Holding, held_in}

-- what is held of a range is what is held of a wider one, without the revisions outside
abbrev pub HoldsByRange : HistoryOfBytes → TreesOfBytes → Type 0
HoldsByRange history trees =
    (peg : Peg) (value : MergeInfoValue) (range wider : ℕ × ℕ) → wider.0 ≤ range.0 → range.1 ≤ wider.1
    → held_in history trees peg value range
    ≡ filter (λ (held : ℕ × Holding). is_in_range (Some range) held.0) (held_in history trees peg value wider)
