-- What a list contains, and what its images and its parts do.
use Rattle.std.proofs.Common.{◌≡◌, ◌⊎◌, Bool, true, false, cond, inl, inr, List, [], ◌∷◌, Option, None, Some, filter_map, map, refl, sym, ap, subst, ◌∙◌, arith}
use Rattle.std.proofs.Math.ListN.{get_or-map}
use Rattle.std.proofs.lemmas.List.{length-map}
use Rattle.std.proofs.lemmas.List.Elements.{All-contains, All-filter, Contains-get_or, filter_passes}
use Rattle.std.proofs.lemmas.Option.{none-some, same_Some}
use Rattle.std.specs.List.{All, Contains, cons_option, filter}
use Rattle.branch_answer.proofs.FirstPaths.{Contains-cons, Contains-split}

-- what is made of an element is made of the list
pub Contains-map : {X Y : Type 0} (f : X → Y) (xs : List X) (x : X) → Contains xs x → Contains (map f xs) (f x)
Contains-map f xs x (k, within, is) = (k, omega (arith, within, length-map xs f), get_or-map f xs k x ∙ ap f is)

-- an element that passes a test is kept
pub Contains-filter : {X : Type 0} (test : X → Bool) (xs : List X) (x : X) → test x ≡ true → Contains xs x → Contains (filter test xs) x
Contains-filter test [] x passes has = has
Contains-filter test (y ∷ xs) x passes has = elim (Contains-split y xs x has) [
  | inl is ↦
      let kept : test y ≡ true = ap test (sym is) ∙ passes in
      subst (λ b. Contains (cond b (y ∷ filter test xs) (filter test xs)) x) (sym kept) (Contains-cons y (filter test xs) x (inl is))
  | inr later ↦
      let more = Contains-filter test xs x passes later in
      elim (test y) as (λ b. Contains (cond b (y ∷ filter test xs) (filter test xs)) x) [
        | true ↦ Contains-cons y (filter test xs) x (inr more)
        | false ↦ more
      ]
]

-- so is what is found of an element
pub Contains-filter_map : {X Y : Type 0} (h : X → Option Y) (xs : List X) (x : X) (y : Y) → Contains xs x → h x ≡ Some y → Contains (filter_map h xs) y
Contains-filter_map h [] x y has at = absurd (omega (arith, has.1))
Contains-filter_map {X} {Y} h (first ∷ xs) x y has at = by (h first) refl (Contains-split first xs x has) (λ later. Contains-filter_map h xs x y later at)
  where
    by : (o : Option Y) → h first ≡ o → (x ≡ first) ⊎ Contains xs x → (Contains xs x → Contains (filter_map h xs) y) → Contains (cons_option o (filter_map h xs)) y
    by None none (inl is) rest = absurd (none-some y (sym none ∙ ap h (sym is) ∙ at))
    by None none (inr later) rest = rest later
    by (Some z) some (inl is) rest = Contains-cons z (filter_map h xs) y (inl (same_Some y z (sym at ∙ ap h is ∙ some)))
    by (Some z) some (inr later) rest = Contains-cons z (filter_map h xs) y (inr (rest later))

-- what holds of each element that passes holds of what is kept
pub All-kept : {X : Type 0} (test : X → Bool) (P : X → Type 0) (xs : List X) → All (λ x. test x ≡ true → P x) xs → All P (filter test xs)
All-kept test P xs all k d within = All-filter test (λ x. test x ≡ true → P x) xs all k d within (filter_passes test xs k d within)

-- what holds of each image holds of each element
pub All-from_map : {X Y : Type 0} (f : X → Y) (P : Y → Type 0) (xs : List X) → All P (map f xs) → All (λ x. P (f x)) xs
All-from_map f P xs all k d within = subst P (get_or-map f xs k d) (all k (f d) (omega (arith, within, length-map xs f)))

-- what is of a list of images is made of an element
pub Contains-from_map : {X Y : Type 0} (f : X → Y) (xs : List X) (y : Y) → Contains (map f xs) y → (x : X) × Contains xs x × (f x ≡ y)
Contains-from_map f [] y has = absurd (omega (arith, has.1))
Contains-from_map {X} {Y} f (x ∷ xs) y has = elim (Contains-split (f x) (map f xs) y has) [
  | inl is ↦ (x, Contains-cons x xs x (inl refl), sym is)
  | inr later ↦ let (other, among, is) = Contains-from_map f xs y later in (other, Contains-cons x xs other (inr among), is)
]

-- what is kept is of the list, and passes
pub Contains-from_filter : {X : Type 0} (test : X → Bool) (xs : List X) (x : X) → Contains (filter test xs) x → Contains xs x × (test x ≡ true)
Contains-from_filter test xs x has =
    All-contains (λ each. Contains xs each × (test each ≡ true)) (filter test xs) x
    (λ k d within. (All-filter test (Contains xs) xs (λ j e inside. Contains-get_or xs j e inside) k d within, filter_passes test xs k d within)) has

-- of those that pass, the first and those among the rest
pub filter-first : {X : Type 0} (test : X → Bool) (x : X) (xs all : List X) (b : Bool) → all ≡ x ∷ xs → test x ≡ b → cond b (x ∷ filter test xs) (filter test xs) ≡ filter test all
filter-first test x xs all b is tested = ap (λ each. cond each (x ∷ filter test xs) (filter test xs)) (sym tested) ∙ ap (filter test) (sym is)
