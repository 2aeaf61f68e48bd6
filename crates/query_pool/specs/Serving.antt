-- Places that are served once each. Results stand with their places, in whatever order they were found.
use Rattle.std.specs.Prelude.{◌≡◌, ℕ, ◌==◌, nat_lt, List, filter, if◌then◌else◌, length}
use Rattle.std.specs.List.{flat_map}
use Rattle.query_pool.specs.declared.part.Part.{Part}

-- how many places a job may have
abbrev pub most_places : ℕ
most_places = 1000000

-- how many workers there may be
abbrev pub most_workers : ℕ
most_workers = 64

-- the results of all parts, one part after another
abbrev pub results_of : {X : Type 0} → List (Part X) → List (ℕ × X)
results_of parts = flat_map (λ part. part.done.items) parts

-- how many results there are for a place
abbrev pub count_at : {X : Type 0} → ℕ → List (ℕ × X) → ℕ
count_at place results = length (filter (λ each. each.0 == place) results)

-- each place below n has one result, and there is no other result
abbrev pub HasEachOnce : {X : Type 0} → ℕ → List (ℕ × X) → Type 0
HasEachOnce n results = (place : ℕ) → count_at place results ≡ (if nat_lt place n then 1 else 0)
