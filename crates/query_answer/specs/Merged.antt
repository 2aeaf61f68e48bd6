-- Which operative revisions of a source were merged into a target, and which are eligible, that is, still to be merged.
-- A revision is merged where the mergeinfo of the target has it for the path that the source had then. It is eligible
-- where the mergeinfo lacks it, and the target had another path then, or none: what a target shares with the source
-- before it was copied is its own history (Subversion book, "Branching and Merging", "Mergeinfo and Previews").
use Rattle.std.specs.Prelude.{ℕ, ◌+◌, Bool, not, ◌&&◌, List, Option, None, Some, filter_map, is_none, option_and_then, option_map, if◌then◌else◌}
use Rattle.std.specs.List.{range_with_len}
use Rattle.svn_path.specs.Components.{path_text}
use Rattle.range_list.specs.Rangelist.{inheritability_of}
use Rattle.merge_info.specs.Value.{MergeInfoValue, runs_at}
use Rattle.svn_dump.specs.History.{History}
use Rattle.svn_dump.specs.Location.{location}
use Rattle.svn_dump.specs.Tree.{Tree}
use Rattle.path_index.specs.Operative.{is_operative}
use Rattle.path_index.specs.Segment.{same_location}
use Rattle.query_answer.specs.declared.answers.MergedRevision.{MergedRevision}

-- the location of a path in a revision that is operative there
abbrev pub operative_location : {C M : Type 0} → (C → C → Bool) → History C M → List (Tree C M) → List C → ℕ → ℕ → Option (List C)
operative_location same history trees path peg_rev rev =
    option_and_then (λ here. if is_operative same history trees here rev then Some here else None) (location same trees path peg_rev rev)

-- what is found at the locations of a path in its operative revisions, in rising order
abbrev pub found_in : {C M X : Type 0} → (C → C → Bool) → History C M → List (Tree C M) → List C → ℕ → (List C → ℕ → Option X) → List X
found_in same history trees path peg_rev find =
    filter_map (λ rev. option_and_then (λ here. find here rev) (operative_location same history trees path peg_rev rev)) (range_with_len 0 (peg_rev + 1))

-- for each path and revision: whether the revision is inheritable, if mergeinfo has it for the path
abbrev pub RevisionsByPath : Type 0 → Type 0
RevisionsByPath C = List C → ℕ → Option Bool

-- ---- merged

abbrev pub merged_revision : ℕ → Bool → MergedRevision
merged_revision rev inheritable = record { rev = rev; inheritable = inheritable }

-- the revision, if the mergeinfo of the target has it for the location of the source
abbrev pub merged_at : {C : Type 0} → RevisionsByPath C → List C → ℕ → Option MergedRevision
merged_at has here rev = option_map (merged_revision rev) (has here rev)

-- the merged revisions of a source, given the mergeinfo of the target
abbrev pub merged_revisions : {C M : Type 0} → (C → C → Bool) → History C M → List (Tree C M) → List C → ℕ → RevisionsByPath C → List MergedRevision
merged_revisions same history trees path peg_rev has = found_in same history trees path peg_rev (merged_at has)

-- ---- eligible

-- the mergeinfo of the target lacks the revision for the location of the source, and the target had another location then,
-- or none
abbrev pub is_eligible : {C : Type 0} → (C → C → Bool) → RevisionsByPath C → (ℕ → Option (List C)) → List C → ℕ → Bool
is_eligible same has target here rev = is_none (has here rev) && not (same_location same (target rev) (Some here))

abbrev pub eligible_at : {C : Type 0} → (C → C → Bool) → RevisionsByPath C → (ℕ → Option (List C)) → List C → ℕ → Option ℕ
eligible_at same has target here rev = if is_eligible same has target here rev then Some rev else None

-- the eligible revisions of a source, given the mergeinfo and the locations of the target
abbrev pub eligible_revisions : {C M : Type 0} → (C → C → Bool) → History C M → List (Tree C M) → List C → ℕ → RevisionsByPath C → (ℕ → Option (List C)) → List ℕ
eligible_revisions same history trees path peg_rev has target = found_in same history trees path peg_rev (eligible_at same has target)

-- ---- of a history in bytes

-- whether a value has a revision for a path
abbrev pub value_has : MergeInfoValue → RevisionsByPath (List ℕ)
value_has value path rev = inheritability_of (runs_at value (path_text path)) rev
