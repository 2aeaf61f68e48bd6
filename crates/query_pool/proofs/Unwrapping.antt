-- Results that are taken from slots.
use Rattle.query_pool.proofs.Common.{◌≡◌, ℕ, zero, suc, ◌<◌, List, [], ◌∷◌, ◌++◌, Option, None, Some, length, map, option_map, refl, sym, subst, ap, ◌∙◌, arith, slice_get, append-nil, length-map, All-weaker, slice_get-map, slice_get_within, HasEachAtMostOnce, IsGatherError, StandsAtItsPlace, HasEachOnce, Holds, IsFirstEmpty, IsUnwrapError, count_in, GatherError, Stranger, Double, Missing, Memory}
use Rattle.query_pool.proofs.Adding.{at_most_once, count_in-past, one_within}

module _ {X : Type 0} where
  count_in-full : (ordered : List X) (back : List (Option X)) (place : ℕ) → place < length ordered → count_in (slice_get (map Some ordered ++ back) place) ≡ 1
  count_in-full [] back place within = absurd (omega arith)
  count_in-full (found ∷ ordered) back zero within = refl
  count_in-full (found ∷ ordered) back (suc place) within = count_in-full ordered back place (omega arith)

  empty_after : (ordered : List X) (back : List (Option X)) → slice_get (map Some ordered ++ None ∷ back) (length ordered) ≡ Some None
  empty_after [] back = refl
  empty_after (found ∷ ordered) back = empty_after ordered back

  -- an empty slot after full ones is the first
  pub IsFirstEmpty-after : (ordered : List X) (back slots : List (Option X)) (place : ℕ) → map Some ordered ++ None ∷ back ≡ slots → place ≡ length ordered → IsFirstEmpty slots place
  IsFirstEmpty-after ordered back slots place whole at =
      subst (λ slots. IsFirstEmpty slots place) whole
      (subst (IsFirstEmpty (map Some ordered ++ None ∷ back)) (sym at) (record {
        empty = empty_after ordered back;
        least = count_in-full ordered (None ∷ back);
      }))

  inside : (slot : Option X) (found : X) → option_map Some slot ≡ Some (Some found) → slot ≡ Some found
  inside None found is = cc
  inside (Some other) found is = cc

  full_at : (ordered : List X) (place : ℕ) (found : X) → slice_get (map Some ordered) place ≡ Some (Some found) → slice_get ordered place ≡ Some found
  full_at ordered place found is = inside (slice_get ordered place) found (sym (slice_get-map Some ordered place) ∙ is)

module _ {X : Type 0} (n : ℕ) (slots : List (Option X)) (len : length slots ≡ n) (results : List (ℕ × X)) (held : Holds slots results) where
  pub IsGatherError-unwrap : (error : GatherError) → IsUnwrapError slots error → IsGatherError n results error
  IsGatherError-unwrap (Missing place) first = record {
    all_in_order = subst (λ n. HasEachAtMostOnce n results) len (at_most_once slots results held);
    below = omega (arith, slice_get_within slots place None first.empty, len);
    missing = held.counts place ∙ ap count_in first.empty;
    least = λ lower below. held.counts lower ∙ first.least lower below;
  }
  IsGatherError-unwrap (Stranger place) none = absurd none
  IsGatherError-unwrap (Double place) none = absurd none
  IsGatherError-unwrap Memory any = any

  module _ (ordered : List X) (full : slots ≡ map Some ordered) where
    pub HasEachOnce-unwrapped : HasEachOnce n results
    HasEachOnce-unwrapped place =
        held.counts place
        ∙ one_within (count_in (slice_get slots place)) place n
        (λ within. subst (λ slots. count_in (slice_get slots place) ≡ 1) (append-nil (map Some ordered) ∙ sym full)
        (count_in-full ordered [] place (omega (arith, within, len, ap length full, length-map ordered (λ (found : X). Some found)))))
        (λ past. count_in-past slots place (omega (arith, past, len)))

    pub StandsAtItsPlace-unwrapped : StandsAtItsPlace ordered results
    StandsAtItsPlace-unwrapped =
        All-weaker (λ each. slice_get slots each.0 ≡ Some (Some each.1)) (λ each. slice_get ordered each.0 ≡ Some each.1)
        (λ each stood. full_at ordered each.0 each.1 (subst (λ slots. slice_get slots each.0 ≡ Some (Some each.1)) full stood)) results held.stands
