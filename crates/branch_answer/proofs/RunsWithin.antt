-- The numbers of canonical runs stand between the first and the last of them.
use Rattle.std.proofs.Common.{◌≡◌, ◌∙◌, ℕ, ◌-◌, ◌<◌, ◌≤◌, false, ◌||◌, inl, inr, List, [], ◌∷◌, Some, refl, sym, ap, subst, arith, length}
use Rattle.std.specs.Prelude.{slice_get}
use Rattle.std.proofs.lemmas.Bool.{cases_lt}
use Rattle.std.proofs.lemmas.Option.{none-some, same_Some}
use Rattle.svn_text.specs.Number.{greatest_revision}
use Rattle.range_list.specs.Rangelist.{IsCanonical, is_in}
use Rattle.range_list.specs.declared.run.Run.{Run}
use Rattle.range_list.proofs.Canonical.{IsCanonical-head, IsOut-below}
use Rattle.range_list.proofs.Same.{covers-above}

-- the end of the last run
abbrev end_of : Run → List Run → ℕ
end_of run [] = run.hi
end_of run (next ∷ runs) = end_of next runs

first-end_of : (run : Run) (runs : List Run) → IsCanonical (run ∷ runs) → run.hi ≤ end_of run runs
first-end_of run [] canonical = omega arith
first-end_of run (next ∷ runs) canonical =
    omega (arith, canonical.1.after, (IsCanonical-head next runs canonical.2).ordered, first-end_of next runs canonical.2)

is_in-after : (run : Run) (runs : List Run) (n : ℕ) → IsCanonical (run ∷ runs) → end_of run runs < n → is_in (run ∷ runs) n ≡ false
is_in-after run [] n canonical after = ap (λ b. b || false) (covers-above run n after)
is_in-after run (next ∷ runs) n canonical after =
    ap (λ b. b || is_in (next ∷ runs) n) (covers-above run n (omega (arith, after, first-end_of run (next ∷ runs) canonical)))
    ∙ is_in-after next runs n canonical.2 after

end_of-last : (run : Run) (runs : List Run) (last : Run) → slice_get (run ∷ runs) (length runs) ≡ Some last → end_of run runs ≡ last.hi
end_of-last run [] last is = ap (λ each. each.hi) (same_Some run last is)
end_of-last run (next ∷ runs) last is = end_of-last next runs last is

end_of-least : (run : Run) (runs : List Run) → IsCanonical (run ∷ runs) → end_of run runs ≤ greatest_revision
end_of-least run [] canonical = canonical.last
end_of-least run (next ∷ runs) canonical = end_of-least next runs canonical.2

-- the first and the last of canonical runs
module _ (runs : List Run) (canonical : IsCanonical runs) (first last : Run) (is_first : slice_get runs 0 ≡ Some first) (is_last : slice_get runs (length runs - 1) ≡ Some last) where
  split : (run : Run) (more : List Run) → runs ≡ run ∷ more → (IsCanonical (run ∷ more)) × (run ≡ first) × (end_of run more ≡ last.hi)
  split run more is =
      let only : length runs - 1 ≡ length more = omega (arith, ap length is) in (
        subst IsCanonical is canonical,
        same_Some run first (sym (ap (λ all. slice_get all 0) is) ∙ is_first),
        end_of-last run more last (sym (ap (λ all. slice_get all (length more)) is) ∙ ap (slice_get runs) (sym only) ∙ is_last),
      )

  pub last-least : last.hi ≤ greatest_revision
  last-least = by runs refl
    where
      by : (all : List Run) → runs ≡ all → last.hi ≤ greatest_revision
      by [] is = absurd (none-some first (sym (ap (λ all. slice_get all 0) is) ∙ is_first))
      by (run ∷ more) is = let (whole, same, ends) = split run more is in omega (arith, ends, end_of-least run more whole)

  pub is_in-outside : (n : ℕ) → (first.lo ≤ n → n ≤ last.hi → ⊥) → is_in runs n ≡ false
  is_in-outside n outside = by runs refl
    where
      by : (all : List Run) → runs ≡ all → is_in runs n ≡ false
      by [] is = ap (λ all. is_in all n) is
      by (run ∷ more) is =
          let (whole, same, ends) = split run more is in
          let start : run.lo ≡ first.lo = ap (λ each. each.lo) same in
          ap (λ all. is_in all n) is ∙ elim (cases_lt n run.lo) [
            | inl before ↦ (IsOut-below (run ∷ more) run.lo n whole (omega arith) before).out
            | inr from ↦ elim (cases_lt last.hi n) [
              | inl after ↦ is_in-after run more n whole (omega (arith, after, ends))
              | inr to ↦ absurd (outside (omega (arith, from, start)) to)
            ]
          ]
