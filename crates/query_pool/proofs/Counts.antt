-- How many results there are for a place.
use Rattle.query_pool.proofs.Common.{◌≡◌, ◌≢◌, ℕ, ◌+◌, ◌<◌, List, [], ◌∷◌, ◌++◌, All, inl, inr, length, subst, ap, ◌∙◌, arith, eqb_tells, nat_tests, length-append, All-head, All-tail, filter-append, count_at}
use Rattle.std.specs.Prelude.{◌==◌}

module _ {X : Type 0} (place : ℕ) where
  pub count_at-append : (front back : List (ℕ × X)) → count_at place (front ++ back) ≡ count_at place front + count_at place back
  count_at-append front back =
      ap length (filter-append (λ each. each.0 == place) front back) ∙ length-append _ _

  pub count_at-same : (each : ℕ × X) (rest : List (ℕ × X)) → each.0 ≡ place → count_at place (each ∷ rest) ≡ count_at place rest + 1
  count_at-same each rest same = grind (arith, nat_tests)

  pub count_at-other : (each : ℕ × X) (rest : List (ℕ × X)) → each.0 ≢ place → count_at place (each ∷ rest) ≡ count_at place rest
  count_at-other each rest other = grind (arith, nat_tests)

  -- what holds of each result holds of one for a place that has some
  pub at_place : (P : ℕ → X → Type 0) (results : List (ℕ × X)) → 0 < count_at place results → All (λ each. P each.0 each.1) results → (x : X) × P place x
  at_place P [] some all = absurd (omega arith)
  at_place P (each ∷ rest) some all =
      elim (eqb_tells each.0 place) [
        | inl (test, same) ↦ (each.1, subst (λ n. P n each.1) same (All-head (λ each. P each.0 each.1) each rest all))
        | inr (test, other) ↦
            at_place P rest (omega (arith, count_at-other each rest other)) (All-tail (λ each. P each.0 each.1) each rest all)
      ]
