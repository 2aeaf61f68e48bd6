-- The elements of a list and of those that are appended to it, and lists that are mapped alike.
use Rattle.svn_dump.proofs.Common.{◌≡◌, ℕ, zero, suc, ◌+◌, ◌-◌, ◌<◌, ◌≤◌, ◌⊎◌, inl, inr, List, AllPairs, [], ◌∷◌, ◌++◌, length, get_or, map, refl, sym, ap, ap₂, ◌∙◌, arith, length-append, cases_lt, get_or_append_left, get_or-append-add, get_or_push, length_push, get_or_from_slice_get, slice_get-get_or, slice_get_within}
use Rattle.std.proofs.Common.{slice_get, Some, All}
use Rattle.std.proofs.Math.Seq.{get_or-append_right}

module _ {X : Type 0} (xs more : List X) where
  -- those of the first keep their indices
  pub slice_get-front : (index : ℕ) → index < length xs → slice_get (xs ++ more) index ≡ slice_get xs index
  slice_get-front index within = front xs index within
    where
      front : (ys : List X) (index : ℕ) → index < length ys → slice_get (ys ++ more) index ≡ slice_get ys index
      front [] index within = absurd (omega (arith, within))
      front (y ∷ ys) zero within = refl
      front (y ∷ ys) (suc index) within = front ys index (omega (arith, within))

  pub slice_get-first : (index : ℕ) (each : X) → slice_get xs index ≡ Some each → slice_get (xs ++ more) index ≡ Some each
  slice_get-first index each at = slice_get-front index (slice_get_within xs index each at) ∙ at

  pub slice_get-before : (index : ℕ) (each : X) → index < length xs → slice_get (xs ++ more) index ≡ Some each → slice_get xs index ≡ Some each
  slice_get-before index each within at = sym (slice_get-front index within) ∙ at

  -- those of the second come after them
  pub slice_get-second : (index : ℕ) (each : X) → slice_get more index ≡ Some each → slice_get (xs ++ more) (length xs + index) ≡ Some each
  slice_get-second index each at =
      let within = slice_get_within more index each at in
      slice_get-get_or (xs ++ more) (length xs + index) each (omega (arith, within, length-append xs more))
      ∙ ap Some (get_or-append-add xs more index each ∙ get_or_from_slice_get more index each each at)

  pub slice_get-after : (index : ℕ) (each : X) → length xs ≤ index → slice_get (xs ++ more) index ≡ Some each → slice_get more (index - length xs) ≡ Some each
  slice_get-after index each past at =
      let within = slice_get_within (xs ++ more) index each at in
      let is : length xs + (index - length xs) ≡ index = omega arith in
      slice_get-get_or more (index - length xs) each (omega (arith, within, length-append xs more))
      ∙ ap Some (sym (get_or-append-add xs more (index - length xs) each) ∙ ap (λ n. get_or (xs ++ more) n each) is ∙ get_or_from_slice_get (xs ++ more) index each each at)

-- an element is of the list, or the one that is appended
pub slice_get-push : {X : Type 0} (xs : List X) (x : X) (index : ℕ) (each : X) → slice_get (xs ++ x ∷ []) index ≡ Some each → (slice_get xs index ≡ Some each) ⊎ ((index ≡ length xs) × (each ≡ x))
slice_get-push xs x index each at = elim (cases_lt index (length xs)) [
  | inl before ↦ inl (slice_get-before xs (x ∷ []) index each before at)
  | inr past ↦
      let within = slice_get_within (xs ++ x ∷ []) index each at in
      let last : index ≡ length xs = omega (arith, within, length_push xs x) in
      inr (last, sym (get_or_from_slice_get (xs ++ x ∷ []) index each each at) ∙ get_or_push xs x each index (sym last))
]

-- pairs of two lists
pub AllPairs-append : {X : Type 0} (R : X → X → Type 0) (xs ys : List X) → AllPairs R xs → AllPairs R ys → ((i j : ℕ) (d : X) → i < length xs → j < length ys → R (get_or xs i d) (get_or ys j d)) → AllPairs R (xs ++ ys)
AllPairs-append R xs ys one other between i j d before within = elim (cases_lt j (length xs)) [
  | inl low ↦ rw (get_or_append_left xs ys d i (omega arith), get_or_append_left xs ys d j low) (one i j d before low)
  | inr high ↦
      let inside : j - length xs < length ys = omega (arith, within, length-append xs ys) in
      rw (get_or-append_right xs ys j d high) (elim (cases_lt i (length xs)) [
        | inl low ↦ rw (get_or_append_left xs ys d i low) (between i (j - length xs) d low inside)
        | inr later ↦ rw (get_or-append_right xs ys i d later) (other (i - length xs) (j - length xs) d (omega arith) inside)
      ])
]

-- functions that agree on each of some elements
pub map-same : {X Y : Type 0} (f g : X → Y) (xs : List X) → All (λ x. f x ≡ g x) xs → map f xs ≡ map g xs
map-same f g [] same = refl
map-same f g (x ∷ xs) same = ap₂ (λ y ys. y ∷ ys) (same zero x (omega arith)) (map-same f g xs (λ k d within. same (suc k) d (omega (arith, within))))
