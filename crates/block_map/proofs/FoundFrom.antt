-- At which ticks a look finds what stood somewhere.
use Rattle.block_map.proofs.Common.{ℕ, zero, suc, ◌+◌, ◌-◌, Bool, List, [], ◌∷◌, ◌++◌, Option, None, Some, All, fold, get_or, length, inl, inr, arith, cases_lt, le-leb, lt-leb, All-head, All-nil, All-push, All-tail, below, Setting, keep, put, Action, delete, change, add, copy, Record, IsFoundUpTo, Found, at, at_with, is, absent, IsFoundAtOrBefore, Look, found_after_action, resolved, look, look_after, look_at, looks_of, with_setting, with_look}

-- what stood somewhere is found at a tick that is no later, at each path
abbrev AreUpTo : {C M : Type 0} → ℕ → Look C M → Type 0
AreUpTo lo found = (path : _) → IsFoundUpTo lo (found path)

module _ {C M : Type 0} (lo : ℕ) where
  -- each look of a list, or nothing past its end
  up_to-get : (looks : List (Look C M)) (index : ℕ) → All (AreUpTo lo) looks → AreUpTo lo (get_or looks index (λ other. absent))
  up_to-get [] index all path = tt
  up_to-get (each ∷ looks) zero all path = All-head (AreUpTo lo) each looks all path
  up_to-get (each ∷ looks) (suc index) all path = up_to-get looks index (All-tail (AreUpTo lo) each looks all) path

  up_to-look_at : (looks : List (Look C M)) (tick : ℕ) (path : List C) → All (AreUpTo lo) looks → IsFoundUpTo lo (look_at lo looks tick path)
  up_to-look_at looks tick path all = elim (cases_lt lo tick) [
    | inl past ↦ rw (lt-leb tick lo past) (up_to-get looks (tick - lo - 1) all path)
    | inr before ↦ rw (le-leb tick lo before) before
  ]

  up_to-with_setting : (setting : Setting M) (found : Found C M) → IsFoundUpTo lo found → IsFoundUpTo lo (with_setting setting found)
  up_to-with_setting keep found up_to = up_to
  up_to-with_setting (put mergeinfo) (at path tick) up_to = up_to
  up_to-with_setting (put mergeinfo) (at_with path tick old) up_to = up_to
  up_to-with_setting (put mergeinfo) (is kind old) up_to = tt
  up_to-with_setting (put mergeinfo) absent up_to = tt

  up_to-found_after_action : (looks : List (Look C M)) (action : Action C M) (old : Found C M) (rest : List C) → All (AreUpTo lo) looks → IsFoundUpTo lo old
      → IsFoundUpTo lo (found_after_action lo looks action old rest)
  up_to-found_after_action looks delete old rest all up_to = tt
  up_to-found_after_action looks (change setting) old [] all up_to = up_to-with_setting setting old up_to
  up_to-found_after_action looks (change setting) old (c ∷ rest) all up_to = up_to
  up_to-found_after_action looks (add replace kind setting) old [] all up_to = tt
  up_to-found_after_action looks (add replace kind setting) old (c ∷ rest) all up_to = tt
  up_to-found_after_action looks (copy replace from tick setting) old [] all up_to =
      up_to-with_setting setting (look_at lo looks tick from) (up_to-look_at looks tick from all)
  up_to-found_after_action looks (copy replace from tick setting) old (c ∷ rest) all up_to = up_to-look_at looks tick (from ++ c ∷ rest) all

  module _ (same : C → C → Bool) where
    up_to-look_after : (looks : List (Look C M)) (each : Record C M) → All (AreUpTo lo) looks → AreUpTo lo (look_after same lo looks each)
    up_to-look_after looks each all path = by (below same each.path path)
      where
        old : Found C M
        old = look_at lo looks (lo + length looks) path

        before : IsFoundUpTo lo old
        before = up_to-look_at looks (lo + length looks) path all

        by : (left : Option (List C)) → IsFoundUpTo lo (elim left [ None ↦ old | Some rest ↦ found_after_action lo looks each.action old rest ])
        by None = before
        by (Some rest) = up_to-found_after_action looks each.action old rest all before

    up_to-fold : (looks : List (Look C M)) (records : List (Record C M)) → All (AreUpTo lo) looks → All (AreUpTo lo) (fold (with_look same lo) looks records)
    up_to-fold looks [] all = all
    up_to-fold looks (each ∷ records) all =
        up_to-fold (with_look same lo looks each) records
        (All-push (AreUpTo lo) looks (look_after same lo looks each) all (up_to-look_after looks each all))

    pub up_to-look : (records : List (Record C M)) (tick : ℕ) (path : List C) → IsFoundUpTo lo (look same lo records tick path)
    unfolding looks_of
    up_to-look records tick path = up_to-look_at (looks_of same lo records) tick path (up_to-fold [] records (All-nil (AreUpTo lo)))

-- from the beginning of a history everything is known
from_resolved : {C M : Type 0} (lo : ℕ) (found : Found C M) → IsFoundUpTo lo found → IsFoundAtOrBefore lo (resolved lo found)
from_resolved zero (at [] tick) up_to = tt
from_resolved zero (at (c ∷ path) tick) up_to = tt
from_resolved zero (at_with [] tick mergeinfo) up_to = tt
from_resolved zero (at_with (c ∷ path) tick mergeinfo) up_to = tt
from_resolved zero (is kind mergeinfo) up_to = tt
from_resolved zero absent up_to = tt
from_resolved (suc lo) (at path tick) up_to = (omega arith, up_to)
from_resolved (suc lo) (at_with path tick mergeinfo) up_to = (omega arith, up_to)
from_resolved (suc lo) (is kind mergeinfo) up_to = tt
from_resolved (suc lo) absent up_to = tt

pub IsFoundAtOrBefore-look : {C M : Type 0} (same : C → C → Bool) (lo : ℕ) (records : List (Record C M)) (tick : ℕ) (path : List C)
    → IsFoundAtOrBefore lo (resolved lo (look same lo records tick path))
IsFoundAtOrBefore-look same lo records tick path = from_resolved lo (look same lo records tick path) (up_to-look lo same records tick path)

-- what is found so is found at a tick that is no later
pub IsFoundUpTo-earlier : {C M : Type 0} (lo : ℕ) (each : Found C M) → IsFoundAtOrBefore lo each → IsFoundUpTo lo each
IsFoundUpTo-earlier lo (at path tick) from = from.1
IsFoundUpTo-earlier lo (at_with path tick mergeinfo) from = from.1
IsFoundUpTo-earlier lo (is kind mergeinfo) from = tt
IsFoundUpTo-earlier lo absent from = tt
