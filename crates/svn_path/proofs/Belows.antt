-- One path at or under another, where the test of components tells which are equal.
use Rattle.std.proofs.Common.{◌≡◌, ◌↔◌, ℕ, ◌≤◌, Bool, ◌&&◌, true, false, cond, List, [], ◌∷◌, ◌++◌, length, drop, Option, Some, None, is_some, IsTrue, inl, inr, refl, sym, ap, subst, ◌∙◌, arith, length-append}
use Rattle.std.proofs.lemmas.Bool.{cases_Bool}
use Rattle.std.proofs.lemmas.Bool.Decides.{Decides-eqb}
use Rattle.std.proofs.lemmas.List.{append-nil}
use Rattle.std.proofs.lemmas.List.Prefix.{front_rest}
use Rattle.std.specs.Bool.{Decides}
use Rattle.std.specs.List.{starts_with}
use Rattle.svn_path.specs.Below.{below, is_below, same_path, parent_of}
use Rattle.svn_path.specs.Path.{same_name}
use Rattle.svn_path.specs.declared.names.NameId.{NameId}

-- a test of components is their equality
pub record IsSame {C : Type 0} (same : C → C → Bool) : Type 0 where
  pub true_is : (a b : C) → same a b ≡ true → a ≡ b
  pub itself : (a : C) → same a a ≡ true

-- ---- a path under another

-- the test as slices make it
pub is_below-starts_with : {C : Type 0} (same : C → C → Bool) (path front : List C) → starts_with same path front ≡ is_below same front path
is_below-starts_with same path [] = refl
is_below-starts_with same [] (f ∷ front) = refl
is_below-starts_with same (c ∷ path) (f ∷ front) =
    elim (same f c) as (λ t. (t && starts_with same path front) ≡ is_some (cond t (below same front path) None)) [
      | true ↦ is_below-starts_with same path front
      | false ↦ refl
    ]

module _ {C : Type 0} {same : C → C → Bool} (laws : IsSame same) where
  -- the test decides equality
  pub IsSame-Decides : (a b : C) → Decides (same a b) (a ≡ b)
  IsSame-Decides a b = (laws.true_is a b, λ is. subst (λ each. same a each ≡ true) is (laws.itself a))

  -- a path with more components is under it, and they are what is left
  pub below-append : (front rest : List C) → below same front (front ++ rest) ≡ Some rest
  below-append [] rest = refl
  below-append (f ∷ front) rest = rw (laws.itself f) (below-append front rest)

  -- and a path that is under it has more components
  pub append-from_below : (front path rest : List C) → below same front path ≡ Some rest → path ≡ front ++ rest
  append-from_below [] path rest left = cc
  append-from_below (f ∷ front) [] rest left = cc
  append-from_below (f ∷ front) (c ∷ path) rest left =
      elim (cases_Bool (same f c)) [
        | inl is ↦ ap (λ each. each ∷ path) (sym (laws.true_is f c is)) ∙ ap (λ more. f ∷ more) (append-from_below front path rest (rw is at left))
        | inr not_is ↦ let none : None ≡ Some rest = rw not_is at left in cc
      ]

  -- so what is left is told by `++`
  pub below-Some : (front path rest : List C) → (below same front path ≡ Some rest) ↔ (path ≡ front ++ rest)
  below-Some front path rest = (append-from_below front path rest, λ is. ap (below same front) is ∙ below-append front rest)

  -- a path is under another exactly where it has more components
  pub is_below-append : (front path : List C) → IsTrue (is_below same front path) ↔ ((rest : List C) × (path ≡ front ++ rest))
  is_below-append front path = (λ is. by (below same front path) refl is, λ (rest, is). ap is_some ((below-Some front path rest).1 is))
    where
      by : (o : Option (List C)) → below same front path ≡ o → IsTrue (is_some o) → (rest : List C) × (path ≡ front ++ rest)
      by None left is = cc
      by (Some rest) left is = (rest, (below-Some front path rest).0 left)

  -- so it is no shorter
  pub length-le_from_is_below : (front path : List C) → IsTrue (is_below same front path) → length front ≤ length path
  length-le_from_is_below front path is =
      let (rest, at) = (is_below-append front path).0 is in
      omega (arith, ap length at, length-append front rest)

  -- what is left are the components behind the front's
  pub drop-from_below : (front path rest : List C) → below same front path ≡ Some rest → drop (length front) path ≡ rest
  drop-from_below front path rest left = front_rest path front rest (append-from_below front path rest left)

  -- a path is under itself
  pub below-itself : (path : List C) → below same path path ≡ Some []
  below-itself path = (below-Some path path []).1 (sym (append-nil path))

  -- two paths are the same exactly where they are equal
  pub same_path-is : (p q : List C) → IsTrue (same_path same p q) ↔ (p ≡ q)
  same_path-is [] [] = (λ is. refl, λ is. refl)
  same_path-is [] (c ∷ q) = (λ is. cc, λ is. cc)
  same_path-is (f ∷ p) [] = (λ is. cc, λ is. cc)
  same_path-is (f ∷ p) (c ∷ q) = (
    λ is. elim (cases_Bool (same f c)) [
      | inl head ↦
          let heads = laws.true_is f c head in
          let tails = (same_path-is p q).0 (rw head at is) in
          cc
      | inr head ↦ let never : false ≡ true = rw head at is in cc
    ],
    λ is.
        let heads : f ≡ c = cc in
        let tails : p ≡ q = cc in
        let head = (IsSame-Decides f c).1 heads in
        rw head ((same_path-is p q).1 tails),
  )

  -- so the same paths are told as components are
  pub IsSame-same_path : IsSame (same_path same)
  IsSame-same_path = record { true_is = λ p q. (same_path-is p q).0; itself = λ p. (same_path-is p p).1 refl }

-- ---- the tests of components

-- numbers of names are told apart
pub IsSame-same_name : IsSame same_name
IsSame-same_name =
    record {
      true_is = λ a b is. let numbered : ℕ → NameId = λ number. record { 0 = number } in ap numbered ((Decides-eqb a.0 b.0).0 is);
      itself = λ a. (Decides-eqb a.0 a.0).1 refl;
    }

-- ---- the path above

-- one component more has the path above it
pub parent_of-push : {C : Type 0} (path : List C) (last : C) → parent_of (path ++ last ∷ []) ≡ Some path
parent_of-push [] last = refl
parent_of-push (c ∷ []) last = refl
parent_of-push (c ∷ d ∷ path) last = rw (parent_of-push (d ∷ path) last)

parent_of-more : {C : Type 0} (c d : C) (path above : List C) (o : Option (List C)) → ((shorter : List C) → o ≡ Some shorter → (last : C) × (d ∷ path ≡ shorter ++ last ∷ [])) → (elim o [ None ↦ None | Some shorter ↦ Some (c ∷ shorter) ]) ≡ Some above → (last : C) × (c ∷ d ∷ path ≡ above ++ last ∷ [])
parent_of-more c d path above None more is = cc
parent_of-more c d path above (Some shorter) more is =
    let (last, at) = more shorter refl in
    let same : c ∷ shorter ≡ above = cc in
    (last, ap (λ rest. c ∷ rest) at ∙ ap (λ front. front ++ last ∷ []) same)

push-from_parent_of : {C : Type 0} (path above : List C) → parent_of path ≡ Some above → (last : C) × (path ≡ above ++ last ∷ [])
push-from_parent_of [] above is = cc
push-from_parent_of (c ∷ []) above is = let none : [] ≡ above = cc in (c, ap (λ front. front ++ c ∷ []) none)
push-from_parent_of (c ∷ d ∷ path) above is =
    parent_of-more c d path above (parent_of (d ∷ path)) (λ shorter at. push-from_parent_of (d ∷ path) shorter at) is

-- the path above lacks the last component alone
pub parent_of-Some : {C : Type 0} (path above : List C) → (parent_of path ≡ Some above) ↔ ((last : C) × (path ≡ above ++ last ∷ []))
parent_of-Some path above = (push-from_parent_of path above, λ (last, at). ap parent_of at ∙ parent_of-push above last)
