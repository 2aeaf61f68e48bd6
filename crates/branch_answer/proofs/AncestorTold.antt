-- `ancestor`: what the location segments of two paths tell of it, and what is answered.
use Rattle.std.proofs.Common.{◌≡◌, ◌∙◌, ℕ, suc, ◌+◌, ◌<◌, ◌≤◌, inl, inr, Option, None, Some, List, [], ◌∷◌, sym, ap, subst, arith, bytes_eq, drop, drop-cons, get_or, length, option_map}
use Rattle.std.proofs.lemmas.Bool.{cases_lt}
use Rattle.std.proofs.lemmas.Option.{none-some}
use Rattle.std.specs.Borrow.{Bor}
use Rattle.path_index.specs.Segment as path_index
use Rattle.path_index.specs.declared.segment.Segment.{Segment}
use Rattle.svn_path.specs.Path.{components_of}
use Rattle.svn_path.specs.declared.names.NameId.{NameId}
use Rattle.svn_dump.proofs.Locations.{location_later}
use Rattle.svn_dump.proofs.Origins.{OriginsFall-trees_of}
use Rattle.svn_dump.specs.Dump.{DumpValue, IsDump, history_in_bytes}
use Rattle.svn_dump.specs.Location.{location}
use Rattle.query_answer.proofs.StandingsInBytes.{IsSame-bytes_eq}
use Rattle.query_answer.specs.Answer.{if_peg_exists, ok_answer, segment_in_bytes, segments_in_bytes}
use Rattle.query_answer.specs.Peg.{PegValue, peg_view}
use Rattle.query_answer.specs.Repo.{IsPegFound, IsPegRefused, peg_in_bytes, trees_in_bytes}
use Rattle.query_answer.specs.declared.target.PathRev.{PathRev}
use Rattle.query_answer.specs.declared.unanswered.Unanswered.{Unanswered}
use Rattle.branch_answer.proofs.Located.{AreLocated, AreLocated-segments_up_to}
use Rattle.branch_answer.proofs.Refusals.{IsUntold-refused}
use Rattle.branch_answer.proofs.SharedPlaces.{AreLeft, AreLeft-next, AreLeft-next_other, AreLeft-none, AreLeft-none_other, ancestor_of-newest, ancestor_of-none, none_above, one_location-differ, one_location-nowhere, shared_in, shared_in-both}
use Rattle.branch_answer.specs.Ancestor.{ancestor_line, ancestor_of, one_location}
use Rattle.branch_answer.specs.KeptAncestor.{AreSegmentsAt, AreSegmentsOfBoth, HaveInBoth, IsNewestInBoth, shared_in_bytes}
use Rattle.branch_answer.specs.Life.{PathOfBytes}
use Rattle.branch_answer.specs.QuestionAnswer.{ancestor_answer}
use Rattle.branch_answer.specs.Told.{IsUntold}

-- ---- segments

abbrev SegmentOfBytes : Type 0
SegmentOfBytes = path_index.Segment (List ℕ)

-- this is the segment of a place
pub record IsAt (segments : List Segment) (i : ℕ) (segment : Segment) : Type 0 where
  pub within : i < length segments
  pub is : segment ≡ get_or segments i segment

drop-IsAt : (segments : List Segment) (i : ℕ) (segment : Segment) → IsAt segments i segment → drop i segments ≡ segment ∷ drop (i + 1) segments
drop-IsAt segments i segment at =
    let next : suc i ≡ i + 1 = omega arith in
    drop-cons segments i segment at.within ∙ (λ k. sym at.is k ∷ drop (next k) segments)

module _ (dump : DumpValue) where
  abbrev location_at : PathRev → ℕ → Option PathOfBytes
  location_at at = location bytes_eq (trees_in_bytes dump) (components_of dump.names at.path) at.rev

  -- these segments of two paths are left
  abbrev pub AreLeftOf : PathRev → PathRev → List Segment → List Segment → Type 0
  AreLeftOf at other_at segments others =
      AreLeft (location_at at) (location_at other_at) (segments_in_bytes dump.names segments) (segments_in_bytes dump.names others)

  AreLocated-segments : (at : PathRev) (segments : List Segment) → AreSegmentsAt dump at segments
      → AreLocated (location_at at) (at.rev + 1) (segments_in_bytes dump.names segments)
  AreLocated-segments at segments are =
      subst (AreLocated (location_at at) (at.rev + 1)) (sym are.exact) (AreLocated-segments_up_to bytes_eq IsSame-bytes_eq (location_at at) at.rev)

  -- a path stood nowhere after its revision
  nowhere_later : (at : PathRev) (rev : ℕ) → at.rev < rev → location_at at rev ≡ None
  nowhere_later at rev later =
      location_later bytes_eq (trees_in_bytes dump) (OriginsFall-trees_of bytes_eq (history_in_bytes dump)) (components_of dump.names at.path) at.rev rev later

  module _ (at other_at : PathRev) where
    shared_later : (rev : ℕ) → at.rev < rev → shared_in (location_at at) (location_at other_at) rev ≡ None
    shared_later rev later = ap (λ here. one_location here (location_at other_at rev)) (nowhere_later at rev later)

    shared_later_other : (rev : ℕ) → other_at.rev < rev → shared_in (location_at at) (location_at other_at) rev ≡ None
    shared_later_other rev later =
        ap (one_location (location_at at rev)) (nowhere_later other_at rev later) ∙ one_location-nowhere (location_at at rev)

    -- at the beginning all are left
    pub AreLeft-all : (segments others : List Segment) → AreSegmentsOfBoth dump at other_at segments others → AreLeftOf at other_at segments others
    AreLeft-all segments others are = record {
      bound = at.rev + 1;
      other_bound = other_at.rev + 1;
      are = AreLocated-segments at segments are.one_are;
      others_are = AreLocated-segments other_at others are.other_are;
      above = λ rev from. shared_later rev (omega (arith, from));
      above_other = λ rev from. shared_later_other rev (omega (arith, from));
    }

    -- once one list is at its end there is no common ancestor
    pub ancestor_of-end : (others : List Segment) → AreLeftOf at other_at [] others
        → None ≡ ancestor_of (trees_in_bytes dump) (peg_in_bytes dump at) (peg_in_bytes dump other_at)
    ancestor_of-end others left =
        sym (ancestor_of-none (trees_in_bytes dump) (peg_in_bytes dump at) (peg_in_bytes dump other_at)
        (AreLeft-none (location_at at) (location_at other_at) (segments_in_bytes dump.names others) left))

    pub ancestor_of-end_other : (segments : List Segment) → AreLeftOf at other_at segments []
        → None ≡ ancestor_of (trees_in_bytes dump) (peg_in_bytes dump at) (peg_in_bytes dump other_at)
    ancestor_of-end_other segments left =
        sym (ancestor_of-none (trees_in_bytes dump) (peg_in_bytes dump at) (peg_in_bytes dump other_at)
        (AreLeft-none_other (location_at at) (location_at other_at) (segments_in_bytes dump.names segments) left))

    -- ---- the first two that are left

    module _ (kept : IsDump dump) (all all_others : List Segment) (i j : ℕ) (segment other : Segment)
        (is : IsAt all i segment) (other_is : IsAt all_others j other) (left : AreLeftOf at other_at (drop i all) (drop j all_others)) where
      abbrev parts : List NameId → PathOfBytes
      parts = components_of dump.names

      abbrev first : SegmentOfBytes
      first = segment_in_bytes dump.names segment

      abbrev first_other : SegmentOfBytes
      first_other = segment_in_bytes dump.names other

      abbrev rest : List SegmentOfBytes
      rest = segments_in_bytes dump.names (drop (i + 1) all)

      abbrev rest_other : List SegmentOfBytes
      rest_other = segments_in_bytes dump.names (drop (j + 1) all_others)

      both_left : AreLeft (location_at at) (location_at other_at) (first ∷ rest) (first_other ∷ rest_other)
      both_left =
          subst (λ segments. AreLeftOf at other_at segments (other ∷ drop (j + 1) all_others)) (drop-IsAt all i segment is)
          (subst (AreLeftOf at other_at (drop i all)) (drop-IsAt all_others j other other_is) left)

      -- where they have no path in common
      module _ (none : IsNewestInBoth segment other None) where
        differ : (rev : ℕ) → segment.lo ≤ rev → rev ≤ segment.hi → other.lo ≤ rev → rev ≤ other.hi → one_location first.path first_other.path ≡ None
        differ rev from to other_from other_to =
            one_location-differ dump kept segment.path other.path
            (λ path. none rev path (record { from = from; to = to }) (record { from = other_from; to = other_to }))

        pub AreLeft-after : other.lo ≤ segment.lo → AreLeftOf at other_at (drop (i + 1) all) (drop j all_others)
        AreLeft-after later =
            subst (AreLeftOf at other_at (drop (i + 1) all)) (sym (drop-IsAt all_others j other other_is))
            (AreLeft-next (location_at at) (location_at other_at) first first_other rest rest_other both_left differ later)

        pub AreLeft-after_other : segment.lo ≤ other.lo → AreLeftOf at other_at (drop i all) (drop (j + 1) all_others)
        AreLeft-after_other later =
            subst (λ segments. AreLeftOf at other_at segments (drop (j + 1) all_others)) (sym (drop-IsAt all i segment is))
            (AreLeft-next_other (location_at at) (location_at other_at) first first_other rest rest_other both_left differ later)

      -- the path in common in the greatest revision of both
      pub ancestor_of-found : (place : ℕ × Bor (List NameId)) → HaveInBoth segment other place.0 place.1.now
          → Some (shared_in_bytes dump.names place) ≡ ancestor_of (trees_in_bytes dump) (peg_in_bytes dump at) (peg_in_bytes dump other_at)
      ancestor_of-found place have =
          let rev = place.0 in
          let path = parts place.1.now in
          let shared : shared_in (location_at at) (location_at other_at) rev ≡ Some path =
          shared_in-both (location_at at) (location_at other_at) first first_other rest rest_other both_left rev path
          have.in_one.from have.in_one.to have.in_other.from have.in_other.to (ap (option_map parts) have.path_of_one) (ap (option_map parts) have.path_of_other) in
          elim (cases_lt at.rev rev) [
            | inl later ↦ absurd (none-some path (sym (shared_later rev later) ∙ shared))
            | inr within ↦
                sym (ancestor_of-newest (trees_in_bytes dump) (peg_in_bytes dump at) (peg_in_bytes dump other_at) rev path within shared
                (none_above (location_at at) (location_at other_at) first first_other rest rest_other both_left rev have.in_one.from have.in_other.from
                (λ later from to other_from other_to. have.newest later (record { from = from; to = to }) (record { from = other_from; to = other_to }))))
          ]

-- ---- the answer

module _ (dump : DumpValue) (peg other : PegValue) (at : PathRev) (found : IsPegFound dump peg at) where
  -- the second peg is refused
  pub IsUntold-other : (error : Unanswered) → IsPegRefused dump other error
      → IsUntold (ancestor_answer (trees_in_bytes dump) (peg_view peg) (peg_view other)) error
  IsUntold-other error refused =
      let trees = trees_in_bytes dump in
      subst (λ answer. IsUntold answer error)
      (sym (found.answered (λ one. if_peg_exists trees (peg_view other) (ok_answer (ancestor_line (ancestor_of trees one (peg_view other)) ∷ [])))))
      (IsUntold-refused dump other error (λ each. ok_answer (ancestor_line (ancestor_of trees (peg_in_bytes dump at) each) ∷ [])) refused)

  -- both pegs are found
  pub ancestor_answer-found : (other_at : PathRev) → IsPegFound dump other other_at
      → ancestor_answer (trees_in_bytes dump) (peg_view peg) (peg_view other)
      ≡ ok_answer (ancestor_line (ancestor_of (trees_in_bytes dump) (peg_in_bytes dump at) (peg_in_bytes dump other_at)) ∷ [])
  ancestor_answer-found other_at other_found =
      let trees = trees_in_bytes dump in
      found.answered (λ one. if_peg_exists trees (peg_view other) (ok_answer (ancestor_line (ancestor_of trees one (peg_view other)) ∷ [])))
      ∙ other_found.answered (λ each. ok_answer (ancestor_line (ancestor_of trees (peg_in_bytes dump at) each) ∷ []))
