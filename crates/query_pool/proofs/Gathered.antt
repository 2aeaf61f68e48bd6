-- What the results of parts say of the results that are gathered from them.
use Rattle.query_pool.proofs.Common.{◌≡◌, ℕ, ◌+◌, ◌<◌, List, All, Some, length, refl, sym, subst, ap, ◌∙◌, arith, slice_get, nat_tests, same_Some, slice_get_within, IsFirstMisplaced, IsGatherError, StandsAtItsPlace, HasEachOnce, count_at, GatherError, Stranger, Double, Missing, Memory}
use Rattle.query_pool.proofs.Counts.{at_place, count_at-append, count_at-same}

module _ {X : Type 0} (n : ℕ) (results : List (ℕ × X)) (once : HasEachOnce n results) where
  count_within : (place : ℕ) → place < n → count_at place results ≡ 1
  count_within place below = let counted = once place in grind (arith, nat_tests)

  -- no result is more than there should be
  none_misplaced : (place : ℕ) → IsFirstMisplaced n results place → ⊥
  none_misplaced place first =
      let counted : count_at place results ≡ count_at place first.front + (count_at place first.back + 1) =
      ap (count_at place) first.all ∙ count_at-append place first.front _ ∙ ap (λ k. count_at place first.front + k) (count_at-same place (place, first.result) first.back refl) in
      omega (arith, once place, first.taken, counted)

-- a property of each result and its place is one of each element and its place
pub gathered_each : {X : Type 0} (P : ℕ → X → Type 0) (n : ℕ) (results : List (ℕ × X)) (ordered : List X) → HasEachOnce n results → length ordered ≡ n → StandsAtItsPlace ordered results → All (λ each. P each.0 each.1) results → (place : ℕ) (x : X) → slice_get ordered place ≡ Some x → P place x
gathered_each {X} P n results ordered once len stands all place x is =
    let counted = count_within n results once place (omega (arith, slice_get_within ordered place x is, len)) in
    let (y, (property, stood)) = at_place place (λ k y. P k y × (slice_get ordered k ≡ Some y)) results (omega (arith, counted)) (λ k d within. (all k d within, stands k d within)) in
    subst (P place) (same_Some y x (sym stood ∙ is)) property

-- where nothing is wrong with the results, only memory can run out
pub has_each_once-no_error : {X : Type 0} (n : ℕ) (results : List (ℕ × X)) → HasEachOnce n results → (error : GatherError) → IsGatherError n results error → error ≡ Memory
has_each_once-no_error n results once (Stranger place) is = absurd (none_misplaced n results once place is.1)
has_each_once-no_error n results once (Double place) is = absurd (none_misplaced n results once place is.1)
has_each_once-no_error n results once (Missing place) is =
    absurd (omega (arith, count_within n results once place is.below, is.missing))
has_each_once-no_error n results once Memory is = refl
