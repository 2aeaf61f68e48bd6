-- Results that are collected from a list, until one is missing.
use Rattle.merge_info.proofs.Common.{◌≡◌, ℕ, ◌+◌, ◌<◌, List, [], ◌∷◌, ◌++◌, Option, Some, None, All, length, get_or, drop, map, refl, sym, ap, ◌∙◌, option_map, append_assoc, drop_more, All-nil, All-push, all_of}
use Rattle.std.proofs.lemmas.List.{append-nil}

-- what a loop over a list has left where it comes to an element
pub drop-next : {X : Type 0} (xs : List X) (n : ℕ) (x : X) → (n < length xs) × (x ≡ get_or xs n x) → drop n xs ≡ x ∷ drop (n + 1) xs
drop-next xs n x at = drop_more xs n x at.0 ∙ ap (λ each. each ∷ drop (n + 1) xs) (sym at.1)

-- what was collected, and what is still to come
abbrev onto : {Y : Type 0} → List Y → Option (List Y) → Option (List Y)
onto done rest = option_map (λ more. done ++ more) rest

onto-none : {Y : Type 0} (rest : Option (List Y)) → rest ≡ onto [] rest
onto-none None = refl
onto-none (Some more) = refl

onto-more : {Y : Type 0} (done : List Y) (y : Y) (rest : Option (List Y)) → onto done (onto (y ∷ []) rest) ≡ onto (done ++ y ∷ []) rest
onto-more done y None = refl
onto-more done y (Some more) = ap Some (sym (append_assoc done (y ∷ []) more))

-- the results of a whole list are those that were collected and those of what is left
pub record AreCollected {X Y : Type 0} (f : X → Option Y) (P : Y → Type 0) (whole : Option (List Y)) (done : List Y) (left : List X) : Type 0 where
  pub results : whole ≡ onto done (all_of (map f left))
  pub each : All P done

module _ {X Y : Type 0} {f : X → Option Y} {P : Y → Type 0} {whole : Option (List Y)} where
  pub AreCollected-none : {left : List X} → whole ≡ all_of (map f left) → AreCollected f P whole [] left
  AreCollected-none {left} is = record { results = is ∙ onto-none (all_of (map f left)); each = All-nil P }

  module _ {done : List Y} {left : List X} (collected : AreCollected f P whole done left) where
    pub AreCollected-all : left ≡ [] → whole ≡ Some done
    AreCollected-all none = collected.results ∙ rw none (ap Some (append-nil done))

    module _ {x : X} {others : List X} (next : left ≡ x ∷ others) where
      pub AreCollected-missing : f x ≡ None → whole ≡ None
      AreCollected-missing missing = collected.results ∙ rw (next, missing) refl

      pub AreCollected-more : {y : Y} → f x ≡ Some y → P y → AreCollected f P whole (done ++ y ∷ []) others
      AreCollected-more {y} found fine = record {
        results = collected.results ∙ rw (next, found) (onto-more done y (all_of (map f others)));
        each = All-push P done y collected.each fine;
      }
