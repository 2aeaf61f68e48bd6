-- The names that most proofs cite, passed on from one place. Declares nothing.
pub use Rattle.std.proofs.Common.{[], ◌*◌, ◌++◌, ◌+◌, ◌-◌, ◌<◌, ◌==◌, ◌∙◌, ◌∷◌, ◌≡◌, ◌≢◌, ◌≤◌, All, ap, append_assoc, arith, Bool, drop, false, get_or, IfErr, if◌then◌else◌, inl, inr, length, List, map, nat_lt, None, Option, option_map, refl, replicate, rules, set, Some, subst, suc, sym, true, zero, ℕ}
pub use Rattle.std.proofs.lemmas.Bool.Decides.{eqb_tells, nat_tests}
pub use Rattle.std.proofs.lemmas.List.{append-nil, flat_map_more, get_or-replicate, get_or-set_same, length-append, length-map, length-replicate, length-set, set-set}
pub use Rattle.std.proofs.lemmas.List.Elements.{All-append, All-cons, All-head, All-nil, All-push, All-set, All-tail, All-weaker, filter-append}
pub use Rattle.std.proofs.lemmas.Option.{none-some, same_Some, slice_get-get_or, slice_get-map, slice_get_cases, slice_get_past, slice_get_read, slice_get_within}
pub use Rattle.std.proofs.lemmas.Result.{err_from_is_err_and, IfErr-weaker, IfOk-weaker}
pub use Rattle.std.specs.Prelude.{slice_get}
pub use Rattle.crossbeam_deque.specs.Handles.{IsPassOf, stealer_deque, view, worker_capacity, worker_flavor, worker_index, worker_view}
pub use Rattle.query_pool.specs.Calling.{Continues, HandsOver, IsReady, results_in}
pub use Rattle.query_pool.specs.Gathering.{HasEachAtMostOnce, IsFirstMisplaced, IsGatherError, StandsAtItsPlace}
pub use Rattle.query_pool.specs.Serving.{count_at, HasEachOnce, most_workers, results_of}
pub use Rattle.query_pool.specs.Slots.{Adds, count_in, Holds, IsAddError, IsFirstEmpty, IsUnwrapError}
pub use Rattle.query_pool.specs.Stealing.{after_split, Finishes, HasTakenAll, IsInformed, IsShared, joined, LooksEmpty, Puts, Records, Serves, spent, split_off, Takes, tally, times, times_taken}
pub use Rattle.query_pool.specs.declared.deque.Tally.{Tally}
pub use Rattle.query_pool.specs.declared.error.GatherError.{GatherError}
pub use Rattle.query_pool.specs.declared.error.GatherError.TheVariants.{Double, Memory, Missing, Stranger}
