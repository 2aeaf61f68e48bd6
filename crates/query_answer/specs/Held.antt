-- The mergeinfo that holds for a path, where it is lent: the value of the nearest path that has some, and what the path
-- has below that one.
use Rattle.std.specs.Prelude.{ℕ, ◌==◌, Bool, not, List, Option, Some, None, drop, length, option_and_then}
use Rattle.svn_path.specs.Path.{IsPathOf, components_of}
use Rattle.svn_path.specs.declared.names.NameId.{NameId}
use Rattle.range_list.specs.declared.run.Run.{Run}
use Rattle.merge_info.specs.Value.{IsMergeInfo, MergeInfoValue}
use Rattle.block_map.specs.declared.entry.Nearest.{Nearest}
use Rattle.path_index.specs.declared.segment.Segment.{Segment}
use Rattle.query_answer.specs.HeldValue.{own_or_below, path_above, ranges_at}
use Rattle.query_answer.specs.declared.held_mergeinfo.HeldMergeinfo.{HeldMergeinfo}
use Rattle.query_answer.specs.declared.target.Target.{Target}

abbrev pub held_value : List (List ℕ) → HeldMergeinfo → MergeInfoValue
held_value names held = own_or_below (components_of names held.rest.now) held.value.now

-- the path is below that of the value
abbrev pub is_inherited : HeldMergeinfo → Bool
is_inherited held = not (length held.rest.now == 0)

-- what the path has below is of the table, and the value is in canonical form
pub record IsHeldIn (names : List (List ℕ)) (held : HeldMergeinfo) : Type 0 where
  pub rest : IsPathOf names held.rest.now
  pub canonical : IsMergeInfo held.value.now

-- ---- its revisions

-- the revisions that the value has for the source path without the rest at its end
abbrev pub held_ranges_at : List (List ℕ) → HeldMergeinfo → List NameId → Option (List Run)
held_ranges_at names held path = option_and_then (ranges_at names held.value.now) (path_above held.rest.now path)

abbrev pub held_ranges_in : List (List ℕ) → HeldMergeinfo → Segment → Option (List Run)
held_ranges_in names held segment = option_and_then (held_ranges_at names held) segment.path

-- ---- of a target

-- how many components of a path the one with the nearest mergeinfo has: all of them, without mergeinfo
abbrev pub depth_in : List NameId → Option Nearest → ℕ
depth_in path None = length path
depth_in path (Some found) = found.depth

-- what the path has below that one
abbrev pub rest_of : Target → List NameId
rest_of target = drop (depth_in target.at.path target.nearest) target.at.path
