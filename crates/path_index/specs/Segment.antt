-- Where a path stood through all revisions, as location segments (Subversion book, "Peg and operative revisions").
use Rattle.std.specs.Prelude.{◌≡◌, ◌≢◌, ℕ, zero, suc, ◌+◌, ◌<◌, ◌≤◌, Bool, true, false, List, [], ◌∷◌, Option, Some, None, map, option_map, if◌then◌else◌}
use Rattle.svn_path.specs.Below.{same_path}
use Rattle.svn_dump.specs.Location.{location}
use Rattle.svn_dump.specs.Tree.{Tree}

-- neighbouring revisions in which the path had one location, or none
pub record Segment (C : Type 0) : Type 0 where
  pub lo : ℕ
  pub hi : ℕ
  pub path : Option (List C)

abbrev pub same_location : {C : Type 0} → (C → C → Bool) → Option (List C) → Option (List C) → Bool
same_location same None None = true
same_location same None (Some path) = false
same_location same (Some path) None = false
same_location same (Some path) (Some other) = same_path same path other

-- the segments with one more revision, which is the next above them; while the path stood nowhere yet there are none
unfoldable pub with_location : {C : Type 0} → (C → C → Bool) → ℕ → Option (List C) → List (Segment C) → List (Segment C)
with_location same rev None [] = []
with_location same rev (Some path) [] = record { lo = rev; hi = rev; path = Some path } ∷ []
with_location same rev here (segment ∷ segments) =
    if same_location same here segment.path then record segment { hi = rev } ∷ segments
    else record { lo = rev; hi = rev; path = here } ∷ segment ∷ segments

-- the segments of the revisions up to this one, the newest first, given the location in each revision
unfoldable pub segments_up_to : {C : Type 0} → (C → C → Bool) → (ℕ → Option (List C)) → ℕ → List (Segment C)
segments_up_to same located zero = with_location same zero (located zero) []
segments_up_to same located (suc rev) = with_location same (suc rev) (located (suc rev)) (segments_up_to same located rev)

-- the segments of a path in a revision
abbrev pub segments_of : {C M : Type 0} → (C → C → Bool) → List (Tree C M) → List C → ℕ → List (Segment C)
segments_of same trees path peg = segments_up_to same (λ rev. location same trees path peg rev) peg

-- ---- what they are

-- the path had the segment's location all through the segment, and another in the revision before; a segment in
-- which it stood nowhere has a revision before
pub record IsSegment {C : Type 0} (located : ℕ → Option (List C)) (segment : Segment C) : Type 0 where
  pub ordered : segment.lo ≤ segment.hi
  pub stays : (rev : ℕ) → segment.lo ≤ rev → rev ≤ segment.hi → located rev ≡ segment.path
  pub starts : (rev : ℕ) → segment.lo ≡ suc rev → located rev ≢ segment.path
  pub follows : segment.path ≡ None → 0 < segment.lo

-- the segments of the revisions below a bound, the newest first: no revision is left out between them, and below the
-- last one the path stood nowhere
abbrev pub AreSegments : {C : Type 0} → (ℕ → Option (List C)) → ℕ → List (Segment C) → Type 0
AreSegments located bound [] = (rev : ℕ) → rev < bound → located rev ≡ None
AreSegments located bound (segment ∷ segments) =
    (segment.hi + 1 ≡ bound) × IsSegment located segment × AreSegments located segment.lo segments

-- ---- renaming

abbrev pub rename_segment : {C D : Type 0} → (C → D) → Segment C → Segment D
rename_segment name segment = record { lo = segment.lo; hi = segment.hi; path = option_map (map name) segment.path }
