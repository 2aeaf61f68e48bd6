-- The first of some paths in the order of the bytes does not depend on their order.
use Rattle.std.proofs.Common.{◌≡◌, ◌⊎◌, ℕ, zero, suc, Bool, true, false, inl, inr, if◌then◌else◌, List, [], ◌∷◌, Option, None, Some, Ordering, Less, Equal, Greater, All, refl, sym, ap, subst, ◌∙◌, arith}
use Rattle.std.proofs.lemmas.Bool.{both_ways}
use Rattle.std.proofs.lemmas.Cmp.{nat_list_cmp_total, tied_itself}
use Rattle.std.proofs.lemmas.Map.Lookups.{exact_bytes}
use Rattle.std.specs.Cmp.Lexicographic.{slice_cmp}
use Rattle.std.specs.List.{Contains}
use Rattle.std.specs.Ordering.{is_lt, nat_cmp, ordering_reverse}
use Rattle.svn_path.proofs.Components.{parts_of-path_text}
use Rattle.svn_path.specs.Components.{IsComponent, parts_of, path_text}
use Rattle.branch_answer.specs.Life.{PathOfBytes, earlier_of}
unfoldable use Rattle.branch_answer.specs.Life.{first_path}

-- ---- the order of bytes

abbrev cmp : List ℕ → List ℕ → Ordering
cmp xs ys = slice_cmp nat_cmp xs ys

lt_asym : (x y : List ℕ) → is_lt (cmp x y) ≡ true → is_lt (cmp y x) ≡ false
lt_asym x y less = by (cmp x y) refl less
  where
    by : (r : Ordering) → cmp x y ≡ r → is_lt r ≡ true → is_lt (cmp y x) ≡ false
    by Less at less = ap is_lt (nat_list_cmp_total.antisymm y x ∙ ap ordering_reverse at)
    by Equal at less = absurd (both_ways false refl less)
    by Greater at less = absurd (both_ways false refl less)

lt_itself : (x : List ℕ) → is_lt (cmp x x) ≡ false
lt_itself x = ap is_lt (tied_itself nat_list_cmp_total x)

-- what is not before a second, which is not before a third, is not before that
lt_over : (x y z : List ℕ) → is_lt (cmp x y) ≡ false → is_lt (cmp y z) ≡ false → is_lt (cmp x z) ≡ false
lt_over x y z one other = by (cmp x z) refl
  where
    less_from : cmp x z ≡ Less → (r : Ordering) → cmp y z ≡ r → is_lt r ≡ false → cmp x y ≡ Less
    less_from at Less so not_less = absurd (both_ways true not_less refl)
    less_from at Equal so not_less =
        nat_list_cmp_total.antisymm x y
        ∙ ap ordering_reverse (nat_list_cmp_total.congr y z x so ∙ nat_list_cmp_total.antisymm z x ∙ ap ordering_reverse at)
    less_from at Greater so not_less = nat_list_cmp_total.trans x z y at (nat_list_cmp_total.antisymm z y ∙ ap ordering_reverse so)

    by : (r : Ordering) → cmp x z ≡ r → is_lt (cmp x z) ≡ false
    by Less at = absurd (both_ways true (sym (ap is_lt (less_from at (cmp y z) refl other)) ∙ one) refl)
    by Equal at = ap is_lt at
    by Greater at = ap is_lt at

same_texts : (x y : List ℕ) → is_lt (cmp x y) ≡ false → is_lt (cmp y x) ≡ false → x ≡ y
same_texts x y one other = by (cmp x y) refl one
  where
    by : (r : Ordering) → cmp x y ≡ r → is_lt r ≡ false → x ≡ y
    by Less at not_less = absurd (both_ways true not_less refl)
    by Equal at not_less = exact_bytes x y at
    by Greater at not_less = absurd (both_ways true (sym (ap is_lt (nat_list_cmp_total.antisymm y x ∙ ap ordering_reverse at)) ∙ other) refl)

-- ---- the first path

-- a path is printed before another
abbrev pub is_before_of : PathOfBytes → PathOfBytes → Bool
is_before_of path other = is_lt (cmp (path_text path) (path_text other))

-- it is one of these paths, and none of them is before it; or there are none
abbrev pub IsFirst : (PathOfBytes → Type 0) → Option PathOfBytes → Type 0
IsFirst P None = (path : PathOfBytes) → P path → ⊥
IsFirst P (Some first) = P first × ((path : PathOfBytes) → P path → is_before_of path first ≡ false)

-- the same paths have the same first
pub IsFirst-same : (P Q : PathOfBytes → Type 0) → ((path : PathOfBytes) → P path → Q path) → ((path : PathOfBytes) → Q path → P path)
    → (first : Option PathOfBytes) → IsFirst P first → IsFirst Q first
IsFirst-same P Q to back None none = λ path has. none path (back path has)
IsFirst-same P Q to back (Some first) (has, least) = (to first has, λ path one. least path (back path one))

-- one more path
pub IsFirst-more : (P : PathOfBytes → Type 0) (more : PathOfBytes) (first : Option PathOfBytes) → IsFirst P first
    → IsFirst (λ path. (path ≡ more) ⊎ P path) (Some (earlier_of more first))
IsFirst-more P more None none = (
  inl refl,
  λ path among. elim among [
    | inl is ↦ subst (λ each. is_before_of each more ≡ false) (sym is) (lt_itself (path_text more))
    | inr has ↦ absurd (none path has)
  ],
)
IsFirst-more P more (Some first) (has, least) = by (is_before_of first more) refl
  where
    by : (b : Bool) → is_before_of first more ≡ b → IsFirst (λ path. (path ≡ more) ⊎ P path) (Some (if b then first else more))
    by true before = (
      inr has,
      λ path among. elim among [
        | inl is ↦ subst (λ each. is_before_of each first ≡ false) (sym is) (lt_asym (path_text first) (path_text more) before)
        | inr one ↦ least path one
      ],
    )
    by false not_before = (
      inl refl,
      λ path among. elim among [
        | inl is ↦ subst (λ each. is_before_of each more ≡ false) (sym is) (lt_itself (path_text more))
        | inr one ↦ lt_over (path_text path) (path_text first) (path_text more) (least path one) not_before
      ],
    )

-- paths of components have one first
pub IsFirst-one : (P Q : PathOfBytes → Type 0) → ((path : PathOfBytes) → P path → Q path) → ((path : PathOfBytes) → Q path → P path)
    → ((path : PathOfBytes) → P path → All IsComponent path) → (one other : Option PathOfBytes) → IsFirst P one → IsFirst Q other → one ≡ other
IsFirst-one P Q to back components None None none nothing = refl
IsFirst-one P Q to back components None (Some other) none (has, least) = absurd (none other (back other has))
IsFirst-one P Q to back components (Some one) None (has, least) none = absurd (none one (to one has))
IsFirst-one P Q to back components (Some one) (Some other) (has, least) (other_has, other_least) =
    let texts : path_text one ≡ path_text other =
    same_texts (path_text one) (path_text other) (other_least one (to one has)) (least other (back other other_has)) in
    ap Some
    (sym (parts_of-path_text one (components one has)) ∙ ap parts_of texts
    ∙ parts_of-path_text other (components other (back other other_has)))

-- ---- the paths of a list

-- what a list with one more contains
pub Contains-split : {X : Type 0} (x : X) (xs : List X) (y : X) → Contains (x ∷ xs) y → (y ≡ x) ⊎ Contains xs y
Contains-split x xs y (zero, within, at) = inl (sym at)
Contains-split x xs y (suc k, within, at) = inr (k, omega (arith, within), at)

pub Contains-cons : {X : Type 0} (x : X) (xs : List X) (y : X) → (y ≡ x) ⊎ Contains xs y → Contains (x ∷ xs) y
Contains-cons x xs y (inl is) = (zero, omega arith, sym is)
Contains-cons x xs y (inr (k, within, at)) = (suc k, omega (arith, within), at)

pub IsFirst-first_path : (paths : List PathOfBytes) → IsFirst (Contains paths) (first_path paths)
unfolding first_path
IsFirst-first_path [] = λ path has. absurd (omega (arith, has.1))
IsFirst-first_path (path ∷ paths) =
    IsFirst-same (λ each. (each ≡ path) ⊎ Contains paths each) (Contains (path ∷ paths)) (Contains-cons path paths) (Contains-split path paths)
    (Some (earlier_of path (first_path paths))) (IsFirst-more (Contains paths) path (first_path paths) (IsFirst-first_path paths))
