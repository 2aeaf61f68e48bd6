-- What the comparisons of paths say of lists of numbers.
use Rattle.std.proofs.Common.{◌≡◌, ◌↔◌, Bool, true, false, cond, ◌&&◌, List, [], ◌∷◌, ◌∙◌, refl}
use Rattle.std.proofs.lemmas.Slice.Eq.{slice_eq-Decides}
use Rattle.std.specs.Bool.{Decides}
use Rattle.std.specs.Cmp.Lexicographic.{pointwise}
use Rattle.svn_path.specs.Below.{same_path}
use Rattle.svn_path.specs.Path.{same_name}
use Rattle.svn_path.specs.declared.names.NameId.{NameId}
use Rattle.svn_path.proofs.Belows.{IsSame-Decides, IsSame-same_name}

-- `==` holds of one list of numbers alone
pub paths_eq-Decides : (p q : List NameId) → Decides (pointwise same_name p q) (p ≡ q)
paths_eq-Decides p q = slice_eq-Decides (IsSame-Decides IsSame-same_name) p q _ refl

-- `==` is `same_path`
pub pointwise-same_path : {C : Type 0} (same : C → C → Bool) (p q : List C) → pointwise same p q ≡ same_path same p q
pointwise-same_path same [] [] = refl
pointwise-same_path same [] (c ∷ q) = refl
pointwise-same_path same (f ∷ p) [] = refl
pointwise-same_path same (f ∷ p) (c ∷ q) =
    elim (same f c) as (λ t. (t && pointwise same p q) ≡ cond t (same_path same p q) false) [
      | true ↦ pointwise-same_path same p q
      | false ↦ refl
    ]
