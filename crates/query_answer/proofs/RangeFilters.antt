-- Filters of what is found of the elements of a list.
use Rattle.query_answer.proofs.Common.{◌≡◌, Bool, true, false, if◌then◌else◌, List, [], ◌∷◌, ◌++◌, Option, Some, None, All, filter, map, option_map, reverse, refl, sym, ap, ◌∙◌, append-nil, filter_map, cons_option, reverse-append, All-head, All-tail, filter-append}

-- what is found of an element passes where the element does, so the elements can be filtered first
module _ {A B : Type 0} (found : A → Option B) (p : A → Bool) (q : B → Bool)
    (agree : (x : A) (y : B) → found x ≡ Some y → q y ≡ p x) where
  by_element : (x : A) (xs : List A) → filter q (filter_map found xs) ≡ filter_map found (filter p xs)
      → (o : Option B) → found x ≡ o → (b : Bool) → p x ≡ b
      → filter q (filter_map found (x ∷ xs)) ≡ filter_map found (filter p (x ∷ xs))
  by_element x xs rest None none true passes = rw (none, passes, none) rest
  by_element x xs rest None none false fails = rw (none, fails) rest
  by_element x xs rest (Some y) some true passes =
      rw (some, agree x y some ∙ passes, passes, some) (ap (λ more. y ∷ more) rest)
  by_element x xs rest (Some y) some false fails = rw (some, agree x y some ∙ fails, fails) rest

  pub filter-filter_map : (xs : List A) → filter q (filter_map found xs) ≡ filter_map found (filter p xs)
  filter-filter_map [] = refl
  filter-filter_map (x ∷ xs) = by_element x xs (filter-filter_map xs) (found x) refl (p x) refl

-- the values that pass are those of the elements whose values pass
module _ {A B : Type 0} (f : A → B) (p : B → Bool) where
  by_value : (b : Bool) (x : A) (xs : List A) → map f (if b then x ∷ xs else xs) ≡ (if b then f x ∷ map f xs else map f xs)
  by_value true x xs = refl
  by_value false x xs = refl

  pub map-filter : (xs : List A) → map f (filter (λ x. p (f x)) xs) ≡ filter p (map f xs)
  map-filter [] = refl
  map-filter (x ∷ xs) =
      by_value (p (f x)) x (filter (λ x. p (f x)) xs)
      ∙ ap (λ rest. if p (f x) then f x ∷ rest else rest) (map-filter xs)

-- the elements that pass, the other way round
module _ {A : Type 0} (p : A → Bool) where
  by_test : (b : Bool) (x : A) (xs : List A)
      → reverse xs ++ (if b then x ∷ [] else []) ≡ reverse (if b then x ∷ xs else xs)
  by_test true x xs = sym (reverse-append (x ∷ []) xs)
  by_test false x xs = append-nil (reverse xs)

  pub filter-reverse : (xs : List A) → filter p (reverse xs) ≡ reverse (filter p xs)
  filter-reverse [] = refl
  filter-reverse (x ∷ xs) =
      ap (filter p) (reverse-append (x ∷ []) xs) ∙ filter-append p (reverse xs) (x ∷ [])
      ∙ ap (λ front. front ++ filter p (x ∷ [])) (filter-reverse xs) ∙ by_test (p x) x (filter p xs)

-- where something is found of each element, its values are those of the elements
module _ {A B C : Type 0} (found : A → Option B) (value : B → C) (line : A → C) where
  by_found : (o : Option B) (z : C) (ys : List B) (zs : List C) → option_map value o ≡ Some z → map value ys ≡ zs
      → map value (cons_option o ys) ≡ z ∷ zs
  by_found None z ys zs is rest = cc
  by_found (Some y) z ys zs is rest = cc

  pub map-filter_map : (xs : List A) → All (λ x. option_map value (found x) ≡ Some (line x)) xs
      → map value (filter_map found xs) ≡ map line xs
  map-filter_map [] each = refl
  map-filter_map (x ∷ xs) each =
      by_found (found x) (line x) (filter_map found xs) (map line xs)
      (All-head (λ one. option_map value (found one) ≡ Some (line one)) x xs each)
      (map-filter_map xs (All-tail (λ one. option_map value (found one) ≡ Some (line one)) x xs each))
