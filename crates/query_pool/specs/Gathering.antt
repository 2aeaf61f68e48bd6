-- Results in the order of their places, and why results can't be put in that order.
use Rattle.std.specs.Prelude.{◌≡◌, ℕ, ◌<◌, ◌≤◌, List, ◌∷◌, ◌++◌, All, Some, if◌then◌else◌, nat_lt, slice_get, ⊤}
use Rattle.query_pool.specs.Serving.{count_at}
use Rattle.query_pool.specs.declared.error.GatherError.{GatherError}
use Rattle.query_pool.specs.declared.error.GatherError.TheVariants as error

-- no place has two results, and each result is for a place below n
abbrev pub HasEachAtMostOnce : {X : Type 0} → ℕ → List (ℕ × X) → Type 0
HasEachAtMostOnce n results = (place : ℕ) → count_at place results ≤ (if nat_lt place n then 1 else 0)

-- each result stands at its place
abbrev pub StandsAtItsPlace : {X : Type 0} → List X → List (ℕ × X) → Type 0
StandsAtItsPlace ordered results = All (λ each. slice_get ordered each.0 ≡ Some each.1) results

-- the first result that can't be put in order is for this place
pub record IsFirstMisplaced {X : Type 0} (n : ℕ) (results : List (ℕ × X)) (place : ℕ) : Type 0 where
  pub front : List (ℕ × X)
  pub result : X
  pub back : List (ℕ × X)
  pub all : results ≡ front ++ (place, result) ∷ back
  pub front_in_order : HasEachAtMostOnce n front
  pub taken : count_at place front ≡ (if nat_lt place n then 1 else 0)

-- the place is the least without a result, where nothing else is wrong
pub record IsFirstMissing {X : Type 0} (n : ℕ) (results : List (ℕ × X)) (place : ℕ) : Type 0 where
  pub all_in_order : HasEachAtMostOnce n results
  pub below : place < n
  pub missing : count_at place results ≡ 0
  pub least : (lower : ℕ) → lower < place → count_at lower results ≡ 1

-- an error that there is for these results; running out of memory is possible for any
abbrev pub IsGatherError : {X : Type 0} → ℕ → List (ℕ × X) → GatherError → Type 0
IsGatherError n results (error.Stranger place) = (n ≤ place) × IsFirstMisplaced n results place
IsGatherError n results (error.Double place) = (place < n) × IsFirstMisplaced n results place
IsGatherError n results (error.Missing place) = IsFirstMissing n results place
IsGatherError n results error.Memory = ⊤
