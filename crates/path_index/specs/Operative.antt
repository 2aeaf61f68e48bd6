-- The operative revisions of a path: those that changed it, as `svn log` lists them (Subversion book, "Examining history").
-- A copy of a path from itself one revision earlier does not by itself make its revision operative on the path.
use Rattle.std.specs.Prelude.{ℕ, zero, suc, ◌+◌, ◌-◌, pred, ◌==◌, nat_lt, Bool, false, not, ◌&&◌, ◌||◌, List, [], ◌∷◌, ◌++◌, Option, Some, None, filter, map, slice_index_or}
use Rattle.std.specs.List.{list_any}
use Rattle.svn_path.specs.Below.{is_below, same_path}
use Rattle.svn_dump.specs.History.{History, Record}
use Rattle.svn_dump.specs.Location.{origin_of}
use Rattle.svn_dump.specs.Tree.{Tree, is_there, tree_of}
use Rattle.path_index.specs.Segment.{Segment}
use Rattle.path_index.specs.declared.segment.Hit.{Hit}

-- a record names the path, or a path below it; a copy doesn't name its source
abbrev pub names_below : {C M : Type 0} → (C → C → Bool) → List C → List (Record C M) → Bool
names_below same path records = list_any (λ each. is_below same path each.path) records

-- the path came from itself in the revision before
abbrev pub came_from_itself : {C : Type 0} → (C → C → Bool) → List C → ℕ → Option (List C × ℕ) → Bool
came_from_itself same path rev None = false
came_from_itself same path rev (Some from) = same_path same from.0 path && from.1 + 1 == rev

abbrev pub records_in : {C M : Type 0} → History C M → ℕ → List (Record C M)
records_in history rev = slice_index_or history rev []

-- the revision is an operative one of the path
unfoldable pub is_operative : {C M : Type 0} → (C → C → Bool) → History C M → List (Tree C M) → List C → ℕ → Bool
is_operative same history trees path rev =
    nat_lt 0 rev && is_there same (tree_of trees rev) path
    && (names_below same path (records_in history rev)
    || not (came_from_itself same path rev (origin_of same trees path rev)))

-- so many numbers from this one down
abbrev pub down_from : ℕ → ℕ → List ℕ
down_from zero top = []
down_from (suc n) top = top ∷ down_from n (pred top)

-- the operative revisions of a segment's path in the segment, the newest first
abbrev pub operative_in : {C M : Type 0} → (C → C → Bool) → History C M → List (Tree C M) → Segment C → Option (List C)
    → List ℕ
operative_in same history trees segment None = []
operative_in same history trees segment (Some path) =
    filter (is_operative same history trees path) (down_from (segment.hi + 1 - segment.lo) segment.hi)

-- an operative revision of the path of the segment of this index in their list
abbrev pub hit_at : ℕ → ℕ → Hit
hit_at index rev = record { rev = rev; segment = index }

-- the operative revisions of segments, given the index of the first in their list
unfoldable pub operative_from : {C M : Type 0} → (C → C → Bool) → History C M → List (Tree C M) → ℕ → List (Segment C)
    → List Hit
operative_from same history trees index [] = []
operative_from same history trees index (segment ∷ segments) =
    map (hit_at index) (operative_in same history trees segment segment.path)
    ++ operative_from same history trees (index + 1) segments

abbrev pub operative_of : {C M : Type 0} → (C → C → Bool) → History C M → List (Tree C M) → List (Segment C) → List Hit
operative_of same history trees segments = operative_from same history trees 0 segments
