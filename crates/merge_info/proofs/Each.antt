-- What holds of each element of a list.
use Rattle.merge_info.proofs.Common.{◌≡◌, ℕ, ◌<◌, Bool, false, List, All, length, get_or, map, sym, subst, arith, both_ways, false_from_ne_true, get_or-map, length-map, list_any_at, list_any}

module _ {X Y : Type 0} (P : Y → Type 0) (f : X → Y) (xs : List X) (all : All P (map f xs)) where
  pub All-from_map : All (λ x. P (f x)) xs
  All-from_map k d below =
      subst P (get_or-map f xs k d (f d) below) (all k (f d) (omega (arith, length-map xs f, below)))

  -- the element of an index
  pub All-from_map_at : (i : ℕ) (x : X) → i < length xs → x ≡ get_or xs i x → P (f x)
  All-from_map_at i x below is = subst (λ y. P (f y)) (sym is) (All-from_map i x below)

-- no element passes a test
pub All-from_list_any : {X : Type 0} (test : X → Bool) (xs : List X) → list_any test xs ≡ false
    → All (λ x. test x ≡ false) xs
All-from_list_any test xs none k d below =
    false_from_ne_true _ (λ hit. both_ways _ none (list_any_at test xs k d below hit))
