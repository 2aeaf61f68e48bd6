-- Renamed paths, under a map of components that keeps which of them are the same.
use Rattle.svn_dump.proofs.Common.{◌≡◌, ℕ, zero, suc, ◌<◌, Bool, false, if◌then◌else◌, List, [], ◌∷◌, Contains, map, get_or, length, refl, ap, ◌∙◌, arith, below, is_below, same_path, parent_of}
use Rattle.std.proofs.Common.{option_map}

-- components are the same where their names are
abbrev pub KeepsSame : {C D : Type 0} → (C → D) → (C → C → Bool) → (D → D → Bool) → Type 0
KeepsSame {C} name sameC sameD = (a b : C) → sameD (name a) (name b) ≡ sameC a b

-- the parent of a renamed path is the renamed parent
pub parent_of-rename : {C D : Type 0} (name : C → D) (path : List C) → parent_of (map name path) ≡ option_map (map name) (parent_of path)
parent_of-rename name [] = refl
parent_of-rename name (c ∷ []) = refl
parent_of-rename name (c ∷ d ∷ path) = grind (arith, parent_of-rename name (d ∷ path))

module _ {C D : Type 0} (name : C → D) (sameC : C → C → Bool) (sameD : D → D → Bool) (alike : KeepsSame name sameC sameD) where
  -- what is left of a renamed path is renamed
  pub below-rename : (front path : List C) → below sameD (map name front) (map name path) ≡ option_map (map name) (below sameC front path)
  below-rename [] path = refl
  below-rename (f ∷ front) [] = refl
  below-rename (f ∷ front) (c ∷ path) = grind (arith, alike f c, below-rename front path)

  -- a renamed path is under a renamed front where it was under the front
  pub is_below-rename : (front path : List C) → is_below sameD (map name front) (map name path) ≡ is_below sameC front path
  is_below-rename front path = grind (arith, below-rename front path)

  -- renamed paths are the same where the paths were
  pub same_path-rename : (p q : List C) → same_path sameD (map name p) (map name q) ≡ same_path sameC p q
  same_path-rename [] [] = refl
  same_path-rename [] (d ∷ q) = refl
  same_path-rename (c ∷ p) [] = refl
  same_path-rename (c ∷ p) (d ∷ q) = grind (arith, alike c d, same_path-rename p q)

-- ---- a path with a component that is no name's

module _ {C D : Type 0} (name : C → D) (sameD : D → D → Bool) (d : D) (unnamed : (c : C) → sameD (name c) d ≡ false) where
  other_path : (k : ℕ) (p : List C) (path : List D) → k < length path → get_or path k d ≡ d → same_path sameD (map name p) path ≡ false
  other_path k p [] within is = absurd (omega arith)
  other_path k [] (x ∷ path) within is = refl
  other_path zero (c ∷ p) (x ∷ path) within is =
      let rest = same_path sameD (map name p) path in
      ap (λ y. if sameD (name c) y then rest else false) is ∙ ap (λ b. if b then rest else false) (unnamed c)
  other_path (suc k) (c ∷ p) (x ∷ path) within is = grind (arith, other_path k p path (omega arith) is)

  -- such a path is no renamed one
  pub same_path_unnamed : (p : List C) (path : List D) → Contains path d → same_path sameD (map name p) path ≡ false
  same_path_unnamed p path within = other_path within.0 p path within.1 within.2
