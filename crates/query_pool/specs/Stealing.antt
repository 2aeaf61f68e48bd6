-- Work stealing, after Chase and Lev. The places that are left wait in a deque. Its owner puts places at the back and takes them at
-- the front, and thieves steal them at the front. The owner and each thief have a pass, which lists the places that it took.
use Rattle.std.specs.Prelude.{◌≡◌, ℕ, ◌+◌, ◌-◌, ◌<◌, ◌==◌, List, [], ◌∷◌, ◌++◌, All, filter, if◌then◌else◌, length, nat_lt}
use Rattle.std.specs.List.{range_with_len, sum_by}
use Rattle.query_pool.specs.Serving.{count_at, most_workers}
use Rattle.query_pool.specs.declared.deque.Tally.{Tally}

-- what a pass knows: its parts of the right to know all passes, how many places were put, and the places that it took
abbrev pub tally : ℕ → ℕ → List ℕ → Tally
tally parts puts taken = record { parts = parts; puts = puts; taken = taken }

-- how often a place stands in a list
abbrev pub times : ℕ → List ℕ → ℕ
times place places = length (filter (λ each. each == place) places)

-- how often all passes took a place
abbrev pub times_taken : ℕ → List Tally → ℕ
times_taken place passes = sum_by (λ pass. times place pass.taken) passes

-- ---- events

-- the owner puts places at the back of those that are left
abbrev pub Puts : Tally → List ℕ → Tally → Type 0
Puts before places after = after ≡ tally before.parts (before.puts + length places) before.taken

-- the owner takes, or a thief steals, the first places that are left: they go to the list of its pass
pub record Takes (before : Tally) (places : List ℕ) (after : Tally) : Type 0 where
  pub were_put : All (λ place. place < before.puts) places
  pub after_is : after ≡ tally before.parts before.puts (before.taken ++ places)

-- each place that was put was taken once, and no other place
abbrev pub HasTakenAll : Tally → Type 0
HasTakenAll pass = (place : ℕ) → times place pass.taken ≡ (if nat_lt place pass.puts then 1 else 0)

-- an empty look changes no pass. It tells the owner of all places, where its pass is the only one with parts
abbrev pub LooksEmpty : Tally → Type 0
LooksEmpty pass = pass.parts ≡ most_workers → HasTakenAll pass

-- ---- splitting and joining passes, which leave the deque as it is

-- the owner's pass once a pass is split off
abbrev pub after_split : Tally → Tally
after_split pass = tally (pass.parts - 1) pass.puts pass.taken

-- a pass that is split off has taken nothing
abbrev pub split_off : Tally → Tally
split_off pass = tally 1 pass.puts []

-- the owner's pass once it has taken in another
abbrev pub joined : Tally → Tally → Tally
joined pass other = tally (pass.parts + other.parts) pass.puts (pass.taken ++ other.taken)

-- a pass that was taken in has taken nothing any more
abbrev pub spent : Tally
spent = tally 0 0 []

-- ---- the rule

-- a pass without a part has taken nothing, and one with a part knows how many places were put
pub record IsInformed (puts : ℕ) (pass : Tally) : Type 0 where
  pub idle : pass.parts ≡ 0 → pass.taken ≡ []
  pub knows : 0 < pass.parts → pass.puts ≡ puts

-- There is a place from which on all that were put are left, in order. The passes took each place below it once, and no other
pub record IsShared (left : List ℕ) (passes : List Tally) : Type 0 where
  pub first : ℕ
  pub in_order : left ≡ range_with_len first (length left)
  pub once_below : (place : ℕ) → times_taken place passes ≡ (if nat_lt place first then 1 else 0)
  pub parts : sum_by (λ pass. pass.parts) passes ≡ most_workers
  pub informed : All (IsInformed (first + length left)) passes

-- ---- results

-- the results are those of the places that were taken, and each is one that the place may give
pub record Records {X : Type 0} (gives : ℕ → X → Type 0) (taken : List ℕ) (results : List (ℕ × X)) : Type 0 where
  pub places : (place : ℕ) → count_at place results ≡ times place taken
  pub given : All (λ each. gives each.0 each.1) results

-- one more place has a result
pub record Finishes {X : Type 0} (gives : ℕ → X → Type 0) (before : List (ℕ × X)) (place : ℕ) (after : List (ℕ × X)) : Type 0 where
  pub found : X
  pub after_is : after ≡ before ++ (place, found) ∷ []
  pub given : gives place found

-- from one pass to the next only places were taken, and the results are those of all that it took
pub record Serves {X : Type 0} (gives : ℕ → X → Type 0) (before after : Tally) (results : List (ℕ × X)) : Type 0 where
  pub parts : after.parts ≡ before.parts
  pub puts : after.puts ≡ before.puts
  pub records : Records gives after.taken results
