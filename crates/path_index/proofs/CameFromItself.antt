-- A path came from itself in the revision before exactly where it stood there at the same path.
use Rattle.path_index.proofs.Common.{◌≡◌, ℕ, suc, ◌+◌, ◌==◌, Bool, true, List, Option, None, Some, refl, sym, ap, ◌∙◌, arith, true≢false, eqb-true, and_parts, and_from, eq-eqb, same_path, IsSame, IsSame-same_path, same_path-is, origin_of, location, Tree, location_here, location_at_origin, origin_stays, OriginsFall, came_from_itself}

module _ {C M : Type 0} (same : C → C → Bool) (trees : List (Tree C M)) (fall : OriginsFall same trees) (is : IsSame same) where
  pub came-from_location : (path : List C) (rev : ℕ) → location same trees path (suc rev) rev ≡ Some path
      → came_from_itself same path (suc rev) (origin_of same trees path (suc rev)) ≡ true
  came-from_location path rev stood =
      ap (came_from_itself same path (suc rev)) (origin_stays same trees fall path rev stood)
      ∙ and_from (same_path same path path) (rev + 1 == suc rev) ((IsSame-same_path is).itself path) (eq-eqb (rev + 1) (suc rev) (omega arith))

  pub location-from_came : (path : List C) (rev : ℕ) → came_from_itself same path (suc rev) (origin_of same trees path (suc rev)) ≡ true
      → location same trees path (suc rev) rev ≡ Some path
  location-from_came path rev came = by_origin (origin_of same trees path (suc rev)) refl came
    where
      by_origin : (o : Option (List C × ℕ)) → origin_of same trees path (suc rev) ≡ o → came_from_itself same path (suc rev) o ≡ true
          → location same trees path (suc rev) rev ≡ Some path
      by_origin None at came = absurd (true≢false (sym came))
      by_origin (Some from) at came =
          let (itself, before) = and_parts (same_path same from.0 path) (from.1 + 1 == suc rev) came in
          let there : from.0 ≡ path = (same_path-is is from.0 path).0 itself in
          let before_it : from.1 ≡ rev = let e : from.1 + 1 ≡ suc rev = eqb-true (from.1 + 1) (suc rev) before in omega arith in
          location_at_origin same trees fall path (suc rev) rev from.0 from.1 (omega arith) (omega arith) at
          ∙ (λ i. location same trees (there i) (before_it i) rev)
          ∙ location_here same trees fall path rev
