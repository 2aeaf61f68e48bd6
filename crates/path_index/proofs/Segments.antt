-- Each segment of a path is just below the one before, with the path at one located in it and at another before it.
use Rattle.path_index.proofs.Common.{◌≡◌, ◌≢◌, ℕ, zero, suc, ◌+◌, ◌<◌, Bool, true, false, if◌then◌else◌, List, [], ◌∷◌, Option, None, Some, inl, inr, refl, sym, ap, subst, ◌∙◌, arith, true≢false, cases_order, same_name, NameId, IsSame, IsSame-same_name, location, NodeRecord, trees_to, AreSegments, IsSegment, Segment, same_location, segments_of, with_location, segments_up_to}
use Rattle.path_index.proofs.SegmentsUpTo.{location_from_same, same_location-itself}

module _ {C : Type 0} (same : C → C → Bool) (is : IsSame same) where
  module _ (located : ℕ → Option (List C)) where
    -- a segment of one revision
    one_segment : (rev : ℕ) (o : Option (List C)) → located rev ≡ o → ((k : ℕ) → rev ≡ suc k → located k ≢ o) → (o ≡ None → 0 < rev)
        → IsSegment located (record { lo = rev; hi = rev; path = o })
    one_segment rev o at starts follows = record {
      ordered = omega arith;
      stays = λ k from to. let here : k ≡ rev = omega arith in ap located here ∙ at;
      starts = starts;
      follows = follows;
    }

    -- a segment of one revision more
    longer_segment : (segment : Segment C) (rev : ℕ) → IsSegment located segment → segment.hi ≡ rev → located (suc rev) ≡ segment.path → IsSegment located (record segment { hi = suc rev })
    longer_segment segment rev so at here = record {
      ordered = omega (arith, so.ordered);
      stays = λ k from to. elim (cases_order k (suc rev)) [
        | inl last ↦ ap located last ∙ here
        | inr (inl before) ↦ so.stays k from (omega arith)
        | inr (inr after) ↦ absurd (omega arith)
      ];
      starts = so.starts;
      follows = so.follows;
    }

    -- one more revision extends the newest segment or begins another
    by_test : (rev : ℕ) (o : Option (List C)) → located (suc rev) ≡ o → (segment : Segment C) (segments : List (Segment C)) → AreSegments located (rev + 1) (segment ∷ segments)
        → (b : Bool) → same_location same o segment.path ≡ b
        → AreSegments located (suc rev + 1) (if b then record segment { hi = suc rev } ∷ segments else record { lo = suc rev; hi = suc rev; path = o } ∷ segment ∷ segments)
    by_test rev o at segment segments so true same_as =
        (refl, longer_segment segment rev so.1 (omega (arith, so.0)) (at ∙ location_from_same same is o segment.path same_as), so.2)
    by_test rev o at segment segments so false differs =
        let starts : (k : ℕ) → suc rev ≡ suc k → located k ≢ o = λ k e stood.
        let here : k ≡ rev = omega arith in
        let ran : located rev ≡ segment.path = so.1.stays rev (omega (arith, so.1.ordered, so.0)) (omega (arith, so.0)) in
        let joined : o ≡ segment.path = sym stood ∙ ap located here ∙ ran in
        true≢false (sym (ap (same_location same o) (sym joined) ∙ same_location-itself same is o) ∙ differs) in
        (refl, one_segment (suc rev) o at starts (λ none. omega arith), (omega (arith, so.0), so.1, so.2))

    by_location : (rev : ℕ) (o : Option (List C)) → located (suc rev) ≡ o → (segments : List (Segment C)) → AreSegments located (rev + 1) segments
        → AreSegments located (suc rev + 1) (with_location same (suc rev) o segments)
    unfolding with_location
    by_location rev None at [] before = λ k low. elim (cases_order k (suc rev)) [
      | inl last ↦ ap located last ∙ at
      | inr (inl under) ↦ before k (omega arith)
      | inr (inr after) ↦ absurd (omega arith)
    ]
    by_location rev (Some path) at [] before =
        let starts : (k : ℕ) → suc rev ≡ suc k → located k ≢ Some path = λ k e stood.
        let nowhere : None ≡ Some path = sym (before k (omega arith)) ∙ stood in cc in
        (refl, one_segment (suc rev) (Some path) at starts (λ none. omega arith), (λ k low. before k (omega arith)))
    by_location rev None at (segment ∷ segments) before = by_test rev None at segment segments before (same_location same None segment.path) refl
    by_location rev (Some path) at (segment ∷ segments) before = by_test rev (Some path) at segment segments before (same_location same (Some path) segment.path) refl

    first_segment : (o : Option (List C)) → located zero ≡ o → AreSegments located (zero + 1) (with_location same zero o [])
    unfolding with_location
    first_segment None at = λ k low. let here : k ≡ 0 = omega arith in ap located here ∙ at
    first_segment (Some path) at =
        (refl, one_segment zero (Some path) at (λ k e. absurd (omega arith)) (λ none. cc), (λ k low. absurd (omega arith)))

    -- the segments up to a revision
    pub AreSegments-segments_up_to : (top : ℕ) → AreSegments located (top + 1) (segments_up_to same located top)
    unfolding segments_up_to
    AreSegments-segments_up_to zero = first_segment (located zero) refl
    AreSegments-segments_up_to (suc rev) = by_location rev (located (suc rev)) refl (segments_up_to same located rev) (AreSegments-segments_up_to rev)

-- ---- of paths by number

-- the segments of a path, by the trees of a list of records
pub AreSegments-segments_of : (records : List NodeRecord) (path : List NameId) (rev : ℕ) (segments : List (Segment NameId)) → segments ≡ segments_of same_name (trees_to records rev) path rev
    → AreSegments (location same_name (trees_to records rev) path rev) (rev + 1) segments
AreSegments-segments_of records path rev segments so =
    let located = location same_name (trees_to records rev) path rev in
    subst (AreSegments located (rev + 1)) (sym so) (AreSegments-segments_up_to same_name IsSame-same_name located rev)
