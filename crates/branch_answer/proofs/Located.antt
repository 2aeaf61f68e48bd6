-- Where a path was located through the revisions of its segments.
use Rattle.std.proofs.Common.{◌≡◌, ◌∙◌, ℕ, zero, suc, ◌+◌, ◌<◌, ◌≤◌, Bool, true, false, inl, inr, Option, None, Some, List, [], ◌∷◌, refl, sym, ap, subst, arith, true≢false, if◌then◌else◌}
use Rattle.std.proofs.lemmas.Bool.{cases_lt}
use Rattle.path_index.specs.Segment.{Segment, same_location}
unfoldable use Rattle.path_index.specs.Segment.{segments_up_to, with_location}
use Rattle.svn_path.proofs.Belows.{IsSame, same_path-is}

-- the path was at the location of each segment all through it, no revision is left out between them, and below the last
-- one the path stood nowhere
abbrev pub AreLocated : {C : Type 0} → (ℕ → Option (List C)) → ℕ → List (Segment C) → Type 0
AreLocated located bound [] = (rev : ℕ) → rev < bound → located rev ≡ None
AreLocated located bound (segment ∷ segments) =
    (segment.hi + 1 ≡ bound) × ((rev : ℕ) → segment.lo ≤ rev → rev ≤ segment.hi → located rev ≡ segment.path) × AreLocated located segment.lo segments

module _ {C : Type 0} (same : C → C → Bool) (laws : IsSame same) (located : ℕ → Option (List C)) where
  same_location-is : (here there : Option (List C)) → same_location same here there ≡ true → here ≡ there
  same_location-is None None is = refl
  same_location-is None (Some path) is = absurd (true≢false (sym is))
  same_location-is (Some path) None is = absurd (true≢false (sym is))
  same_location-is (Some path) (Some other) is = ap Some ((same_path-is laws path other).0 is)

  -- one more revision goes on with the newest segment or begins another
  by_test : (rev : ℕ) (here : Option (List C)) → located rev ≡ here → (segment : Segment C) (segments : List (Segment C)) → AreLocated located rev (segment ∷ segments)
      → (b : Bool) → same_location same here segment.path ≡ b
      → AreLocated located (rev + 1) (if b then record segment { hi = rev } ∷ segments else record { lo = rev; hi = rev; path = here } ∷ segment ∷ segments)
  by_test rev here at segment segments before true goes_on = (
    refl,
    λ each from to. elim (cases_lt each rev) [
      | inl below ↦ before.1 each from (omega (arith, before.0, below))
      | inr not_below ↦
          let last : each ≡ rev = omega (arith, to, not_below) in
          ap located last ∙ at ∙ same_location-is here segment.path goes_on
    ],
    before.2,
  )
  by_test rev here at segment segments before false begins = (
    refl,
    λ each from to. let last : each ≡ rev = omega (arith, from, to) in ap located last ∙ at,
    before,
  )

  AreLocated-with_location : (rev : ℕ) (here : Option (List C)) → located rev ≡ here → (segments : List (Segment C)) → AreLocated located rev segments
      → AreLocated located (rev + 1) (with_location same rev here segments)
  unfolding with_location
  AreLocated-with_location rev None at [] before = λ each below. elim (cases_lt each rev) [
    | inl earlier ↦ before each earlier
    | inr not_earlier ↦ let last : each ≡ rev = omega (arith, below, not_earlier) in ap located last ∙ at
  ]
  AreLocated-with_location rev (Some path) at [] before =
      (refl, λ each from to. let last : each ≡ rev = omega (arith, from, to) in ap located last ∙ at, before)
  AreLocated-with_location rev None at (segment ∷ segments) before = by_test rev None at segment segments before (same_location same None segment.path) refl
  AreLocated-with_location rev (Some path) at (segment ∷ segments) before =
      by_test rev (Some path) at segment segments before (same_location same (Some path) segment.path) refl

  pub AreLocated-segments_up_to : (top : ℕ) → AreLocated located (top + 1) (segments_up_to same located top)
  unfolding segments_up_to
  AreLocated-segments_up_to zero = AreLocated-with_location 0 (located 0) refl [] (λ rev below. absurd (omega (arith, below)))
  AreLocated-segments_up_to (suc rev) =
      let next : rev + 1 ≡ suc rev = omega arith in
      AreLocated-with_location (suc rev) (located (suc rev)) refl (segments_up_to same located rev)
      (subst (λ bound. AreLocated located bound (segments_up_to same located rev)) next (AreLocated-segments_up_to rev))
