-- Where two paths stood at one location, by their location segments.
use Rattle.std.proofs.Common.{◌≡◌, ◌≢◌, ◌∙◌, ℕ, suc, ◌+◌, ◌<◌, ◌≤◌, inl, inr, Option, None, Some, List, [], ◌∷◌, refl, sym, ap, arith, bytes_eq, filter_map, option_map, slice_get, if◌then◌else◌}
use Rattle.std.proofs.lemmas.Bool.{cases_lt, false_from_ne_true}
use Rattle.path_index.specs.Operative.{down_from}
use Rattle.path_index.specs.Segment.{Segment}
use Rattle.svn_path.proofs.Belows.{IsSame-same_name, IsSame-same_path, same_path-is}
use Rattle.svn_path.specs.Below.{same_path}
use Rattle.svn_path.specs.Path.{components_of, same_name}
use Rattle.svn_path.specs.declared.names.NameId.{NameId}
use Rattle.svn_dump.proofs.Renaming.Paths.{same_path-rename}
use Rattle.svn_dump.specs.Dump.{DumpValue, IsDump}
use Rattle.svn_dump.specs.Location.{location}
use Rattle.query_answer.proofs.InBytes.{alike, name}
use Rattle.query_answer.proofs.StandingsInBytes.{IsSame-bytes_eq}
use Rattle.query_answer.specs.Answer.{TreesOfBytes}
use Rattle.query_answer.specs.Peg.{Peg}
use Rattle.branch_answer.proofs.Begun.{found_below, found_below-one, found_below-skip}
use Rattle.branch_answer.proofs.Located.{AreLocated}
use Rattle.branch_answer.specs.Ancestor.{ancestor_of, one_location, shared_place}
use Rattle.branch_answer.specs.Life.{PathOfBytes}

-- no path is that of a path that stood nowhere
pub one_location-nowhere : (here : Option PathOfBytes) → one_location here None ≡ None
one_location-nowhere None = refl
one_location-nowhere (Some path) = refl

pub one_location-itself : (path : PathOfBytes) → one_location (Some path) (Some path) ≡ Some path
one_location-itself path = ap (λ b. if b then Some path else None) ((IsSame-same_path IsSame-bytes_eq).itself path)

-- ---- the segments that are left

module _ (located other_located : ℕ → Option PathOfBytes) where
  -- where both paths stood in a revision, if that was one location
  abbrev pub shared_in : ℕ → Option PathOfBytes
  shared_in rev = one_location (located rev) (other_located rev)

  -- these are the segments of both in the revisions below two bounds, and the paths have no location in common in those above
  pub record AreLeft (segments others : List (Segment (List ℕ))) : Type 0 where
    pub bound : ℕ
    pub other_bound : ℕ
    pub are : AreLocated located bound segments
    pub others_are : AreLocated other_located other_bound others
    pub above : (rev : ℕ) → bound ≤ rev → shared_in rev ≡ None
    pub above_other : (rev : ℕ) → other_bound ≤ rev → shared_in rev ≡ None

  -- they have none in common below the last segment of one
  pub AreLeft-none : (others : List (Segment (List ℕ))) → AreLeft [] others → (rev : ℕ) → shared_in rev ≡ None
  AreLeft-none others left rev = elim (cases_lt rev left.bound) [
    | inl below ↦ ap (λ here. one_location here (other_located rev)) (left.are rev below)
    | inr above ↦ left.above rev above
  ]

  pub AreLeft-none_other : (segments : List (Segment (List ℕ))) → AreLeft segments [] → (rev : ℕ) → shared_in rev ≡ None
  AreLeft-none_other segments left rev = elim (cases_lt rev left.other_bound) [
    | inl below ↦ ap (one_location (located rev)) (left.others_are rev below) ∙ one_location-nowhere (located rev)
    | inr above ↦ left.above_other rev above
  ]

  module _ (segment other : Segment (List ℕ)) (segments others : List (Segment (List ℕ))) (left : AreLeft (segment ∷ segments) (other ∷ others)) where
    -- a revision of both segments
    in_both : (rev : ℕ) → segment.lo ≤ rev → rev ≤ segment.hi → other.lo ≤ rev → rev ≤ other.hi → shared_in rev ≡ one_location segment.path other.path
    in_both rev from to other_from other_to =
        ap (λ here. one_location here (other_located rev)) (left.are.1 rev from to) ∙ ap (one_location segment.path) (left.others_are.1 rev other_from other_to)

    -- a revision above one of the segments
    above_one : (rev : ℕ) → segment.hi < rev → shared_in rev ≡ None
    above_one rev above = left.above rev (omega (arith, left.are.0, above))

    above_other_one : (rev : ℕ) → other.hi < rev → shared_in rev ≡ None
    above_other_one rev above = left.above_other rev (omega (arith, left.others_are.0, above))

    module _ (none : (rev : ℕ) → segment.lo ≤ rev → rev ≤ segment.hi → other.lo ≤ rev → rev ≤ other.hi → one_location segment.path other.path ≡ None) where
      -- where two segments have no path in common, there is none from the later of their first revisions on
      none_from : (rev : ℕ) → segment.lo ≤ rev → other.lo ≤ rev → shared_in rev ≡ None
      none_from rev from other_from = elim (cases_lt segment.hi rev) [
        | inl above ↦ above_one rev above
        | inr to ↦ elim (cases_lt other.hi rev) [
          | inl above ↦ above_other_one rev above
          | inr other_to ↦ in_both rev from to other_from other_to ∙ none rev from to other_from other_to
        ]
      ]

      -- so the one that begins later is done with
      pub AreLeft-next : other.lo ≤ segment.lo → AreLeft segments (other ∷ others)
      AreLeft-next later = record {
        bound = segment.lo;
        other_bound = left.other_bound;
        are = left.are.2;
        others_are = left.others_are;
        above = λ rev from. none_from rev from (omega (arith, from, later));
        above_other = left.above_other;
      }

      pub AreLeft-next_other : segment.lo ≤ other.lo → AreLeft (segment ∷ segments) others
      AreLeft-next_other later = record {
        bound = left.bound;
        other_bound = other.lo;
        are = left.are;
        others_are = left.others_are.2;
        above = left.above;
        above_other = λ rev from. none_from rev (omega (arith, from, later)) from;
      }

    -- above the greatest revision of both there is none
    pub none_above : (rev : ℕ) → segment.lo ≤ rev → other.lo ≤ rev
        → ((later : ℕ) → segment.lo ≤ later → later ≤ segment.hi → other.lo ≤ later → later ≤ other.hi → later ≤ rev)
        → (later : ℕ) → rev < later → shared_in later ≡ None
    none_above rev from other_from newest later after = elim (cases_lt segment.hi later) [
      | inl above ↦ above_one later above
      | inr to ↦ elim (cases_lt other.hi later) [
        | inl above ↦ above_other_one later above
        | inr other_to ↦ absurd (omega (arith, newest later (omega (arith, from, after)) to (omega (arith, other_from, after)) other_to, after))
      ]
    ]

    -- in which they have their one path
    pub shared_in-both : (rev : ℕ) (path : PathOfBytes) → segment.lo ≤ rev → rev ≤ segment.hi → other.lo ≤ rev → rev ≤ other.hi
        → segment.path ≡ Some path → other.path ≡ Some path → shared_in rev ≡ Some path
    shared_in-both rev path from to other_from other_to is other_is =
        in_both rev from to other_from other_to ∙ (λ i. one_location (is i) (other_is i)) ∙ one_location-itself path

-- ---- the youngest common ancestor

module _ (trees : TreesOfBytes) (one other : Peg) where
  abbrev one_in : ℕ → Option PathOfBytes
  one_in = location bytes_eq trees one.path one.rev

  abbrev other_in : ℕ → Option PathOfBytes
  other_in = location bytes_eq trees other.path other.rev

  -- among the revisions up to the first peg's
  ancestor_of-found : ancestor_of trees one other ≡ slice_get (found_below (shared_place trees one other) (suc one.rev)) 0
  ancestor_of-found =
      let same : one.rev + 1 ≡ suc one.rev = omega arith in
      ap (λ n. slice_get (filter_map (shared_place trees one other) (down_from n one.rev)) 0) same

  pub ancestor_of-none : ((rev : ℕ) → shared_in one_in other_in rev ≡ None) → ancestor_of trees one other ≡ None
  ancestor_of-none none =
      ancestor_of-found
      ∙ ap (λ found. slice_get found 0)
      (found_below-skip (shared_place trees one other) 0 (suc one.rev) (omega arith) (λ rev low below. no_place rev (none rev)))
    where
      no_place : (rev : ℕ) → shared_in one_in other_in rev ≡ None → shared_place trees one other rev ≡ None
      no_place rev is = ap (option_map (λ path. (rev, path))) is

  pub ancestor_of-newest : (rev : ℕ) (path : PathOfBytes) → rev ≤ one.rev → shared_in one_in other_in rev ≡ Some path
      → ((later : ℕ) → rev < later → shared_in one_in other_in later ≡ None) → ancestor_of trees one other ≡ Some (rev, path)
  ancestor_of-newest rev path within is none =
      ancestor_of-found
      ∙ ap (λ found. slice_get found 0)
      (found_below-skip (shared_place trees one other) (suc rev) (suc one.rev) (omega (arith, within))
      (λ later low below. ap (option_map (λ each. (later, each))) (none later (omega (arith, low))))
      ∙ found_below-one (shared_place trees one other) rev (rev, path) (ap (option_map (λ each. (rev, each))) is))

-- ---- by numbers

module _ (dump : DumpValue) (kept : IsDump dump) where
  -- paths that differ by number have no location in common
  pub one_location-differ : (here there : Option (List NameId)) → ((path : List NameId) → here ≡ Some path → there ≢ Some path)
      → one_location (option_map (components_of dump.names) here) (option_map (components_of dump.names) there) ≡ None
  one_location-differ None there differ = refl
  one_location-differ (Some path) None differ = refl
  one_location-differ (Some path) (Some other) differ =
      ap (λ b. if b then Some (components_of dump.names path) else None)
      (same_path-rename (name dump kept) same_name bytes_eq (alike dump kept) path other
      ∙ false_from_ne_true (same_path same_name path other) (λ same. differ path refl (ap Some (sym ((same_path-is IsSame-same_name path other).0 same)))))
