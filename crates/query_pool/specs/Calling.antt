-- The calling thread, which owns the deque, and takes in the passes of its thieves.
use Rattle.std.specs.Prelude.{◌≡◌, ℕ, List, [], ◌∷◌, ◌++◌}
use Rattle.crossbeam_deque.specs.Handles.{SameWorker, worker_flavor, worker_view}
use Rattle.query_pool.specs.Serving.{results_of}
use Rattle.query_pool.specs.Stealing.{Records, Serves}
use Rattle.query_pool.specs.declared.caller.Caller.{Caller}
use Rattle.query_pool.specs.declared.part.Part.{Part}

-- its own results, and those of the thieves that it took in
abbrev pub results_in : {S X : Type 0} → Caller S X → List (ℕ × X)
results_in caller = caller.progress.done.items ++ results_of caller.parts.items

-- the parts are those of its thieves, and its own
pub record HandsOver {S X : Type 0} (caller : Caller S X) (parts : List (Part X)) : Type 0 where
  pub own : Part X
  pub own_is : own.done ≡ caller.progress.done
  pub all : parts ≡ caller.parts.items ++ own ∷ []

module _ {S X : Type 0} (is_lawful : S → Type 0) (gives : ℕ → X → Type 0) where
  -- the deque is first in, first out, and there are results for all places that were taken
  pub record IsReady (caller : Caller S X) : Type 0 where
    pub fifo : worker_flavor caller.owner ≡ 0
    pub lawful : is_lawful caller.progress.state
    pub records : Records gives (worker_view caller.owner).taken (results_in caller)

  -- places were taken, and there are results for them
  pub record Continues (before after : Caller S X) : Type 0 where
    pub deque : SameWorker before.owner after.owner
    pub lawful : is_lawful after.progress.state
    pub serves : Serves gives (worker_view before.owner) (worker_view after.owner) (results_in after)
