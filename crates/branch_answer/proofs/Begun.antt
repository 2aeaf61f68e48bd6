-- The lives that begin in revisions below a bound.
use Rattle.std.proofs.Common.{◌≡◌, ℕ, zero, suc, ◌+◌, ◌-◌, ◌<◌, ◌≤◌, ◌∙◌, pred, true, false, Option, None, Some, List, ◌∷◌, refl, ap, arith, is_some, filter_map, bytes_eq, if◌then◌else◌}
use Rattle.std.specs.List.{cons_option}
use Rattle.std.proofs.lemmas.Bool.{both_ways}
use Rattle.path_index.specs.Operative.{down_from}
use Rattle.svn_dump.specs.Tree.{Entry, entry_at, tree_of}
use Rattle.query_answer.specs.Answer.{TreesOfBytes}
unfoldable use Rattle.branch_answer.specs.Life.{last_from, lives_of}
use Rattle.branch_answer.specs.Life.{PathOfBytes, life_at, life_from, lives_on}

module _ {X : Type 0} (f : ℕ → Option X) where
  -- what is found in the revisions below the bound, the newest first
  abbrev pub found_below : ℕ → List X
  found_below bound = filter_map f (down_from bound (pred bound))

  pub found_below-none : (lo n : ℕ) → ((rev : ℕ) → lo ≤ rev → rev < lo + n → f rev ≡ None) → found_below (lo + n) ≡ found_below lo
  found_below-none lo zero none = let same : lo + 0 ≡ lo = omega arith in ap found_below same
  found_below-none lo (suc n) none =
      let same : lo + suc n ≡ suc (lo + n) = omega arith in
      ap found_below same
      ∙ ap (λ one. cons_option one (found_below (lo + n))) (none (lo + n) (omega arith) (omega arith))
      ∙ found_below-none lo n (λ rev low below. none rev low (omega (arith, below)))

  pub found_below-skip : (lo hi : ℕ) → lo ≤ hi → ((rev : ℕ) → lo ≤ rev → rev < hi → f rev ≡ None) → found_below hi ≡ found_below lo
  found_below-skip lo hi ordered none =
      let same : hi ≡ lo + (hi - lo) = omega (arith, ordered) in
      ap found_below same ∙ found_below-none lo (hi - lo) (λ rev low below. none rev low (omega (arith, below, ordered)))

  pub found_below-one : (rev : ℕ) (x : X) → f rev ≡ Some x → found_below (suc rev) ≡ x ∷ found_below rev
  found_below-one rev x is = ap (λ one. cons_option one (found_below rev)) is

module _ (trees : TreesOfBytes) (path : PathOfBytes) where
  -- no life begins where the path is not there
  pub life_at-absent : (top rev : ℕ) → is_some (entry_at bytes_eq (tree_of trees rev) path) ≡ false → life_at trees path top rev ≡ None
  life_at-absent top rev none = by (entry_at bytes_eq (tree_of trees rev) path) refl none
    where
      by : (found : Option (Entry (List ℕ) (List ℕ))) → entry_at bytes_eq (tree_of trees rev) path ≡ found → is_some found ≡ false → life_at trees path top rev ≡ None
      by None is none = ap (λ found. elim found [ None ↦ None | Some each ↦ if lives_on trees path rev then None else Some (life_from trees path top rev each) ]) is
      by (Some entry) is none = absurd (both_ways _ none refl)

  -- or where it lives on
  pub life_at-on : (top rev : ℕ) → lives_on trees path rev ≡ true → life_at trees path top rev ≡ None
  life_at-on top rev on = by (entry_at bytes_eq (tree_of trees rev) path) refl
    where
      by : (found : Option (Entry (List ℕ) (List ℕ))) → entry_at bytes_eq (tree_of trees rev) path ≡ found → life_at trees path top rev ≡ None
      by None is = ap (λ found. elim found [ None ↦ None | Some each ↦ if lives_on trees path rev then None else Some (life_from trees path top rev each) ]) is
      by (Some entry) is =
          ap (λ found. elim found [ None ↦ None | Some each ↦ if lives_on trees path rev then None else Some (life_from trees path top rev each) ]) is
          ∙ ap (λ b. if b then None else Some (life_from trees path top rev entry)) on

  pub life_at-begins : (top rev : ℕ) (entry : Entry (List ℕ) (List ℕ)) → entry_at bytes_eq (tree_of trees rev) path ≡ Some entry → lives_on trees path rev ≡ false
      → life_at trees path top rev ≡ Some (life_from trees path top rev entry)
  life_at-begins top rev entry is begins =
      ap (λ found. elim found [ None ↦ None | Some each ↦ if lives_on trees path rev then None else Some (life_from trees path top rev each) ]) is
      ∙ ap (λ b. if b then None else Some (life_from trees path top rev entry)) begins

  -- the last revision of a run
  pub last_from-run : (k more rev : ℕ) → k ≤ more → ((each : ℕ) → rev < each → each ≤ rev + k → lives_on trees path each ≡ true)
      → (k < more → lives_on trees path (suc (rev + k)) ≡ false) → last_from trees path more rev ≡ rev + k
  unfolding last_from
  last_from-run zero zero rev within on ends = omega arith
  last_from-run zero (suc more) rev within on ends =
      let same : suc (rev + 0) ≡ suc rev = omega arith in
      ap (λ b. if b then last_from trees path more (suc rev) else rev) (rw same at (ends (omega arith))) ∙ omega arith
  last_from-run (suc k) zero rev within on ends = absurd (omega (arith, within))
  last_from-run (suc k) (suc more) rev within on ends =
      let same : suc (suc rev + k) ≡ suc (rev + suc k) = omega arith in
      ap (λ b. if b then last_from trees path more (suc rev) else rev) (on (suc rev) (omega arith) (omega arith))
      ∙ last_from-run k more (suc rev) (omega (arith, within)) (λ each after below. on each (omega (arith, after)) (omega (arith, below)))
      (λ less. rw same (ends (omega (arith, less))))
      ∙ omega arith

  -- all lives are those below the bound after the top
  pub lives_of-found : (top : ℕ) → lives_of trees path top ≡ found_below (life_at trees path top) (suc top)
  unfolding lives_of
  lives_of-found top = let same : top + 1 ≡ suc top = omega arith in ap (λ n. filter_map (life_at trees path top) (down_from n top)) same
