-- The origins and locations in a renamed history.
use Rattle.svn_dump.proofs.Common.{◌≡◌, ℕ, zero, suc, Bool, true, false, if◌then◌else◌, List, map, refl, ap, ◌∙◌, arith, origin_of, location_within, location, Tree, Entry, entry_at, tree_of}
use Rattle.std.proofs.Common.{◌==◌, nat_lt, Option, None, Some, option_map, option_and_then}
use Rattle.svn_dump.proofs.Locations.{step_back}
use Rattle.svn_dump.proofs.Renaming.Paths.{KeepsSame}
use Rattle.svn_dump.proofs.Renaming.Trees.{rename_entry, rename_tree, rename_origin, tree_of-rename, entry_at-rename}

if_map : {A B : Type 0} (f : A → B) (b : Bool) (x y : Option A) → (if b then option_map f x else option_map f y) ≡ option_map f (if b then x else y)
if_map f true x y = refl
if_map f false x y = refl

step_back-rename : {C D : Type 0} (name : C → D) (wanted : ℕ) (f : List C → ℕ → Option (List C)) (g : List D → ℕ → Option (List D))
    → ((path : List C) (rev : ℕ) → g (map name path) rev ≡ option_map (map name) (f path rev)) → (o : Option (List C × ℕ))
    → step_back g wanted (option_map (rename_origin name) o) ≡ option_map (map name) (step_back f wanted o)
step_back-rename name wanted f g renamed None = refl
step_back-rename name wanted f g renamed (Some from) =
    ap (λ r. if nat_lt from.1 wanted then None else r) (renamed from.0 from.1) ∙ if_map (map name) (nat_lt from.1 wanted) None (f from.0 from.1)

module _ {C D M N : Type 0} (name : C → D) (text : M → N) (sameC : C → C → Bool) (sameD : D → D → Bool) (alike : KeepsSame name sameC sameD) where
  -- a renamed path came from the renamed origin
  pub origin_of-rename : (trees : List (Tree C M)) (path : List C) (rev : ℕ)
      → origin_of sameD (map (rename_tree name text) trees) (map name path) rev ≡ option_map (rename_origin name) (origin_of sameC trees path rev)
  origin_of-rename trees path rev =
      ap (λ tree. option_and_then (λ entry. entry.origin) (entry_at sameD tree (map name path))) (tree_of-rename name text trees rev)
      ∙ ap (option_and_then (λ entry. entry.origin)) (entry_at-rename name text sameC sameD alike (tree_of trees rev) path)
      ∙ of_entry (entry_at sameC (tree_of trees rev) path)
    where
      of_entry : (o : Option (Entry C M))
          → option_and_then (λ entry. entry.origin) (option_map (rename_entry name text) o)
          ≡ option_map (rename_origin name) (option_and_then (λ entry. entry.origin) o)
      of_entry None = refl
      of_entry (Some e) = refl

  traced-rename : (trees : List (Tree C M)) (steps : ℕ) (path : List C) (rev wanted : ℕ)
      → location_within sameD (map (rename_tree name text) trees) steps (map name path) rev wanted
      ≡ option_map (map name) (location_within sameC trees steps path rev wanted)
  unfolding location_within
  traced-rename trees zero path rev wanted = grind arith
  traced-rename trees (suc steps) path rev wanted =
      let found = λ (p : List C) (r : ℕ). location_within sameC trees steps p r wanted in
      let found' = λ (p : List D) (r : ℕ). location_within sameD (map (rename_tree name text) trees) steps p r wanted in
      let origin = origin_of sameC trees path rev in
      ap (λ r. if rev == wanted then Some (map name path) else r)
      (ap (step_back found' wanted) (origin_of-rename trees path rev)
      ∙ step_back-rename name wanted found found' (λ p r. traced-rename trees steps p r wanted) origin)
      ∙ if_map (map name) (rev == wanted) (Some path) (step_back found wanted origin)

  -- and stood at the renamed location
  pub location-rename : (trees : List (Tree C M)) (path : List C) (rev wanted : ℕ)
      → location sameD (map (rename_tree name text) trees) (map name path) rev wanted ≡ option_map (map name) (location sameC trees path rev wanted)
  location-rename trees path rev wanted = traced-rename trees rev path rev wanted
