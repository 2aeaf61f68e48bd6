-- The fault of a record by what stands at the tick before it and at earlier ones alone.
use Rattle.block_map.proofs.Common.{◌≡◌, ℕ, ◌+◌, ◌≤◌, Bool, false, List, None, Some, is_some, if◌then◌else◌, get_or, ap, arith, option_or, parent_of, NameId, action_view, missing, exists, no_parent, no_source, Act, ValueId, HasSourceBefore, action_at_tick, Standings, fault_found, has_parent_standing, is_dir_standing, target_found}
use Rattle.svn_dump.specs.declared.record.Act.TheVariants as act

module _ (one other : Standings NameId ValueId) (tick : ℕ) (same : (earlier : ℕ) (path : List NameId) → earlier ≤ tick → one earlier path ≡ other earlier path) where
  target-same : (replace : Bool) (path : List NameId) → target_found one tick replace path ≡ target_found other tick replace path
  target-same replace path =
      let here = same tick path (omega arith) in
      λ i. if replace then (if is_some (here i) then None else Some missing)
      else (if is_some (here i) then Some exists else (if parent i then None else Some no_parent))
    where
      parent : has_parent_standing one tick path ≡ has_parent_standing other tick path
      parent = λ i. elim (parent_of path) [ None ↦ false | Some above ↦ is_dir_standing (same tick above (omega arith) i) ]

  -- what stands at later ticks makes no difference
  pub fault_found-same : (ends : List ℕ) (path : List NameId) (act : Act) → HasSourceBefore ends (tick + 1) act
      → fault_found one tick path (action_at_tick ends (action_view act)) ≡ fault_found other tick path (action_at_tick ends (action_view act))
  fault_found-same ends path act.Delete source = ap (λ found. if is_some found then None else Some missing) (same tick path (omega arith))
  fault_found-same ends path (act.Change mi) source = ap (λ found. if is_some found then None else Some missing) (same tick path (omega arith))
  fault_found-same ends path (act.Add replace kind mi) source = target-same replace path
  fault_found-same ends path (act.Copy replace from from_rev mi) source =
      let from_tick = get_or ends from_rev 0 in
      let there : one from_tick from ≡ other from_tick from = same from_tick from (omega (arith, source.1)) in
      λ i. option_or (target-same replace path i) (if is_some (there i) then None else Some no_source)
