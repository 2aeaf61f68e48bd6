-- What a block of records says of paths, where what stood before the block is not known (Subversion book, "Copying
-- branches"). A tick is a number of records of the history: after so many of them, counted from its beginning. In the
-- records here, the number of a copy's source is a tick in place of a revision.
use Rattle.std.specs.Prelude.{ℕ, zero, suc, ◌+◌, ◌-◌, ◌<◌, ◌≤◌, nat_le, Bool, List, [], ◌∷◌, ◌++◌, Option, Some, None, fold, length, slice_index_or, if◌then◌else◌}
use Rattle.svn_path.specs.Below.{below}
use Rattle.svn_dump.specs.History.{Setting, keep, put, Action, delete, change, add, copy, Record}
use Rattle.svn_dump.specs.Tree.{mergeinfo_after}
use Rattle.svn_dump.specs.declared.record.Kind.{Kind}
use Rattle.svn_dump.specs.declared.record.Kind.TheVariants.{Dir}

pub data Found (C M : Type 0) : Type 0 where
  -- what stood at the path at the tick, which is not after the block's first one
  at : List C → ℕ → Found C M
  -- what stood at the path at the tick, with this mergeinfo
  at_with : List C → ℕ → Option M → Found C M
  is : Kind → Option M → Found C M
  absent : Found C M

-- what was found, with this mergeinfo if something stands there
abbrev pub with_mergeinfo : {C M : Type 0} → Option M → Found C M → Found C M
with_mergeinfo mergeinfo (at path tick) = at_with path tick mergeinfo
with_mergeinfo mergeinfo (at_with path tick old) = at_with path tick mergeinfo
with_mergeinfo mergeinfo (is kind old) = is kind mergeinfo
with_mergeinfo mergeinfo absent = absent

-- what is found, with the mergeinfo that a record leaves
abbrev pub with_setting : {C M : Type 0} → Setting M → Found C M → Found C M
with_setting keep found = found
with_setting (put mergeinfo) found = with_mergeinfo mergeinfo found

-- A look that follows a tick finds what stood somewhere at that tick or before it. From the beginning of a history it
-- finds no such thing: there, what stands at each path is known.
abbrev pub IsFoundAtOrBefore : {C M : Type 0} → ℕ → Found C M → Type 0
IsFoundAtOrBefore lo (at path tick) = (0 < lo) × (tick ≤ lo)
IsFoundAtOrBefore lo (at_with path tick mergeinfo) = (0 < lo) × (tick ≤ lo)
IsFoundAtOrBefore lo (is kind mergeinfo) = Unit {0}
IsFoundAtOrBefore lo absent = Unit {0}

-- what is found at each path
abbrev pub Look : Type 0 → Type 0 → Type 0
Look C M = List C → Found C M

-- what is found at a tick, given that for each tick after the block's first one, so far
abbrev pub look_at : {C M : Type 0} → ℕ → List (Look C M) → ℕ → Look C M
look_at lo looks tick path = if nat_le tick lo then at path tick else slice_index_or looks (tick - lo - 1) (λ other. absent) path

-- what an action leaves at its path and below it, where this was found before
abbrev pub found_after_action : {C M : Type 0} → ℕ → List (Look C M) → Action C M → Found C M → List C → Found C M
found_after_action lo looks delete old rest = absent
found_after_action lo looks (change setting) old [] = with_setting setting old
found_after_action lo looks (change setting) old (c ∷ rest) = old
found_after_action lo looks (add replace kind setting) old [] = is kind (mergeinfo_after setting None)
found_after_action lo looks (add replace kind setting) old (c ∷ rest) = absent
found_after_action lo looks (copy replace from tick setting) old [] = with_setting setting (look_at lo looks tick from)
found_after_action lo looks (copy replace from tick setting) old (c ∷ rest) = look_at lo looks tick (from ++ c ∷ rest)

-- what is found after one more record
abbrev pub look_after : {C M : Type 0} → (C → C → Bool) → ℕ → List (Look C M) → Record C M → Look C M
look_after same lo looks each path =
    let old = look_at lo looks (lo + length looks) path in
    elim (below same each.path path) [ None ↦ old | Some rest ↦ found_after_action lo looks each.action old rest ]

abbrev pub with_look : {C M : Type 0} → (C → C → Bool) → ℕ → List (Look C M) → Record C M → List (Look C M)
with_look same lo looks each = looks ++ look_after same lo looks each ∷ []

-- what is found after each of the records that follow a tick
unfoldable pub looks_of : {C M : Type 0} → (C → C → Bool) → ℕ → List (Record C M) → List (Look C M)
looks_of same lo records = fold (with_look same lo) [] records

-- what the records that follow a tick say of a path at a tick
abbrev pub look : {C M : Type 0} → (C → C → Bool) → ℕ → List (Record C M) → ℕ → List C → Found C M
look same lo records tick path = look_at lo (looks_of same lo records) tick path

-- ---- from the beginning of a history

-- before its first record the root alone is there, a directory without mergeinfo
abbrev pub from_beginning : {C M : Type 0} → Found C M → Found C M
from_beginning (at [] tick) = is Dir None
from_beginning (at (c ∷ path) tick) = absent
from_beginning (at_with [] tick mergeinfo) = is Dir mergeinfo
from_beginning (at_with (c ∷ path) tick mergeinfo) = absent
from_beginning (is kind mergeinfo) = is kind mergeinfo
from_beginning absent = absent

-- so a block that no record precedes says what stands at each path
abbrev pub resolved : {C M : Type 0} → ℕ → Found C M → Found C M
resolved zero found = from_beginning found
resolved (suc lo) found = found
