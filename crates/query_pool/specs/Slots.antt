-- Slots for results, one for each place, while results are put into them.
use Rattle.std.specs.Prelude.{◌≡◌, ℕ, ◌<◌, List, ◌++◌, All, Option, None, Some, length, slice_get, ⊤}
use Rattle.query_pool.specs.Gathering.{IsGatherError}
use Rattle.query_pool.specs.Serving.{count_at}
use Rattle.query_pool.specs.declared.error.GatherError.{GatherError}
use Rattle.query_pool.specs.declared.error.GatherError.TheVariants as error

-- how many results a slot has, where there is one
abbrev pub count_in : {X : Type 0} → Option (Option X) → ℕ
count_in None = 0
count_in (Some None) = 0
count_in (Some (Some found)) = 1

-- the slots have these results and no other, each in the slot of its place
pub record Holds {X : Type 0} (slots : List (Option X)) (results : List (ℕ × X)) : Type 0 where
  pub counts : (place : ℕ) → count_at place results ≡ count_in (slice_get slots place)
  pub stands : All (λ each. slice_get slots each.0 ≡ Some (Some each.1)) results

-- the new slots have what the old ones have, and what is added
pub record Adds {X : Type 0} (old : List (Option X)) (added : List (ℕ × X)) (new : List (Option X)) : Type 0 where
  pub len : length new ≡ length old
  pub holds : (results : List (ℕ × X)) → Holds old results → Holds new (results ++ added)

-- an error that there is where these results are added, whatever was added before and whatever follows
abbrev pub IsAddError : {X : Type 0} → List (Option X) → List (ℕ × X) → GatherError → Type 0
IsAddError {X} slots added found =
    (results back : List (ℕ × X)) → Holds slots results → IsGatherError (length slots) (results ++ added ++ back) found

-- the place is the least with an empty slot
pub record IsFirstEmpty {X : Type 0} (slots : List (Option X)) (place : ℕ) : Type 0 where
  pub empty : slice_get slots place ≡ Some None
  pub least : (lower : ℕ) → lower < place → count_in (slice_get slots lower) ≡ 1

-- an error that there is where slots are unwrapped
abbrev pub IsUnwrapError : {X : Type 0} → List (Option X) → GatherError → Type 0
IsUnwrapError slots (error.Missing place) = IsFirstEmpty slots place
IsUnwrapError slots (error.Stranger place) = ⊥
IsUnwrapError slots (error.Double place) = ⊥
IsUnwrapError slots error.Memory = ⊤
