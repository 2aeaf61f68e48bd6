-- The segments of the locations in some revisions.
use Rattle.path_index.proofs.Common.{◌≡◌, ◌≢◌, ℕ, zero, suc, ◌<◌, ◌≤◌, Bool, true, false, if◌then◌else◌, List, [], ◌∷◌, Option, None, Some, refl, sym, ap, ◌∙◌, arith, true≢false, inl, inr, cases_lt, cond_both, IsSame, IsSame-same_path, same_path-is, Segment, same_location, with_location, segments_up_to}

abbrev segment_from : {C : Type 0} → ℕ → ℕ → Option (List C) → Segment C
segment_from lo hi located = record { lo = lo; hi = hi; path = located }

module _ {C : Type 0} (same : C → C → Bool) (is : IsSame same) where
  -- ---- one more revision

  pub location_from_same : (v w : Option (List C)) → same_location same v w ≡ true → v ≡ w
  location_from_same None None e = refl
  location_from_same None (Some q) e = absurd (true≢false (sym e))
  location_from_same (Some p) None e = absurd (true≢false (sym e))
  location_from_same (Some p) (Some q) e = ap Some ((same_path-is is p q).0 e)

  pub same_location-itself : (v : Option (List C)) → same_location same v v ≡ true
  same_location-itself None = refl
  same_location-itself (Some p) = (IsSame-same_path is).itself p

  other_location : (v w : Option (List C)) → v ≢ w → same_location same v w ≡ false
  other_location v w other = by (same_location same v w) refl
    where
      by : (b : Bool) → same_location same v w ≡ b → b ≡ false
      by true e = absurd (other (location_from_same v w e))
      by false e = refl

  -- the newest segment is of this located; without a segment the path stood nowhere
  abbrev IsNewest : Option (List C) → List (Segment C) → Type 0
  IsNewest v [] = v ≡ None
  IsNewest v (segment ∷ segments) = segment.path ≡ v

  newest_in : (rev : ℕ) (v : Option (List C)) (segments : List (Segment C)) → IsNewest v (with_location same rev v segments)
  unfolding with_location
  newest_in rev None [] = refl
  newest_in rev (Some p) [] = refl
  newest_in rev v (segment ∷ segments) =
      cond_both (same_location same v segment.path) (record segment { hi = rev } ∷ segments) (segment_from rev rev v ∷ segment ∷ segments) (IsNewest v)
      (λ e. sym (location_from_same v segment.path e)) (λ e. refl)

  -- another located begins a segment
  begun : (rev : ℕ) (v old : Option (List C)) (segments : List (Segment C)) → IsNewest old segments → v ≢ old → with_location same rev v segments ≡ segment_from rev rev v ∷ segments
  unfolding with_location
  begun rev None old [] newest other = absurd (other (sym newest))
  begun rev (Some p) old [] newest other = refl
  begun rev v old (segment ∷ segments) newest other =
      ap (λ b. if b then record segment { hi = rev } ∷ segments else segment_from rev rev v ∷ segment ∷ segments)
      (other_location v segment.path (λ e. other (e ∙ newest)))

  -- the same located continues it
  gone_on : (lo hi rev : ℕ) (v : Option (List C)) (segments : List (Segment C)) → with_location same rev v (segment_from lo hi v ∷ segments) ≡ segment_from lo rev v ∷ segments
  unfolding with_location
  gone_on lo hi rev v segments =
      ap (λ b. if b then segment_from lo rev v ∷ segments else segment_from rev rev v ∷ segment_from lo hi v ∷ segments) (same_location-itself v)

  -- ---- some revisions

  module _ (located : ℕ → Option (List C)) where
    newest_up_to : (rev : ℕ) → IsNewest (located rev) (segments_up_to same located rev)
    unfolding segments_up_to
    newest_up_to zero = newest_in 0 (located 0) []
    newest_up_to (suc rev) = newest_in (suc rev) (located (suc rev)) (segments_up_to same located rev)

    -- through revisions with one located the newest segment continues
    goes_on : (lo hi : ℕ) (v : Option (List C)) (segments : List (Segment C)) → lo ≤ hi → ((rev : ℕ) → lo < rev → rev ≤ hi → located rev ≡ v)
        → segments_up_to same located lo ≡ segment_from lo lo v ∷ segments → segments_up_to same located hi ≡ segment_from lo hi v ∷ segments
    unfolding segments_up_to
    goes_on lo zero v segments low all first =
        let here : lo ≡ 0 = omega arith in
        ap (segments_up_to same located) (sym here) ∙ first ∙ ap (λ n. segment_from lo n v ∷ segments) here
    goes_on lo (suc hi) v segments low all first = elim (cases_lt hi lo) [
      | inl past ↦
          let here : lo ≡ suc hi = omega arith in
          ap (segments_up_to same located) (sym here) ∙ first ∙ ap (λ n. segment_from lo n v ∷ segments) here
      | inr within ↦
          let before = goes_on lo hi v segments within (λ rev from to. all rev from (omega arith)) first in
          (λ i. with_location same (suc hi) (all (suc hi) (omega arith) (omega arith) i) (before i))
          ∙ gone_on lo hi (suc hi) v segments
    ]

    -- a segment above a revision with another located
    pub segments_up_to-next : (below hi : ℕ) (v : Option (List C)) → below < hi → ((rev : ℕ) → below < rev → rev ≤ hi → located rev ≡ v) → v ≢ located below
        → segments_up_to same located hi ≡ segment_from (suc below) hi v ∷ segments_up_to same located below
    unfolding segments_up_to
    segments_up_to-next below hi v low all other =
        goes_on (suc below) hi v (segments_up_to same located below) low (λ rev from to. all rev (omega arith) to)
        (ap (λ p. with_location same (suc below) p (segments_up_to same located below)) (all (suc below) (omega arith) low)
        ∙ begun (suc below) v (located below) (segments_up_to same located below) (newest_up_to below) other)

    -- no segment where the path stood nowhere
    segments_up_to-none : (rev : ℕ) → ((r : ℕ) → r ≤ rev → located r ≡ None) → segments_up_to same located rev ≡ []
    unfolding segments_up_to with_location
    segments_up_to-none zero none = ap (λ p. with_location same 0 p []) (none 0 (omega arith))
    segments_up_to-none (suc rev) none =
        λ i. with_location same (suc rev) (none (suc rev) (omega arith) i) (segments_up_to-none rev (λ r low. none r (omega arith)) i)

    -- the oldest segment
    pub segments_up_to-first : (lo hi : ℕ) (path : List C) → lo ≤ hi → ((rev : ℕ) → lo ≤ rev → rev ≤ hi → located rev ≡ Some path) → ((rev : ℕ) → rev < lo → located rev ≡ None)
        → segments_up_to same located hi ≡ segment_from lo hi (Some path) ∷ []
    unfolding segments_up_to with_location
    segments_up_to-first zero hi path low all none =
        goes_on 0 hi (Some path) [] low (λ rev from to. all rev (omega arith) to) (ap (λ p. with_location same 0 p []) (all 0 (omega arith) low))
    segments_up_to-first (suc below) hi path low all none =
        goes_on (suc below) hi (Some path) [] low (λ rev from to. all rev (omega arith) to)
        (λ i. with_location same (suc below) (all (suc below) (omega arith) low i) (segments_up_to-none below (λ r at. none r (omega arith)) i))
