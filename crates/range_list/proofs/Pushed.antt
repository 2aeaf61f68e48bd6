-- A run added above the others.
use Rattle.std.proofs.Common.{◌≡◌, ℕ, ◌+◌, ◌<◌, ◌≤◌, Bool, true, false, ◌&&◌, ◌||◌, List, [], ◌∷◌, ◌++◌, length, get_or, set, take, refl, sym, ap, subst, ◌∙◌, arith}
use Rattle.std.proofs.lemmas.Bool.Decides.{nat_tests}
use Rattle.std.proofs.lemmas.List.{append_assoc, length-set, take_all, take_more, take_more_set}
use Rattle.range_list.specs.Rangelist.{covers, HasSameNumbers, IsCanonical, IsRun}
use Rattle.range_list.specs.declared.run.Run.{Run}
use Rattle.range_list.proofs.Canonical.{AreRuns-from_canonical, IsCanonical-append, IsCanonical-last}
use Rattle.range_list.proofs.Same.{HasSameNumbers-append, HasSameNumbers-refl}

-- the first run up to the end of one that continues it
abbrev pub joined : Run → Run → Run
joined last run = record { lo = last.lo; hi = run.hi; inheritable = last.inheritable }

-- as a test, what it covers is what the two cover
covers-joined : (last run : Run) (n : ℕ) → last.lo ≤ last.hi → last.hi + 1 ≡ run.lo → run.lo ≤ run.hi → covers (joined last run) n ≡ (covers last n || covers run n)
covers-joined last run n ordered next not_empty = grind (arith, nat_tests)

or_same : (b c x y z : Bool) → b ≡ c → x ≡ (y || z) → ((b && x) || false) ≡ ((b && y) || ((c && z) || false))
or_same true true x y z same covered = grind arith
or_same true false x y z same covered = cc
or_same false true x y z same covered = cc
or_same false false x y z same covered = refl

pub HasSameNumbers-joined : (last run : Run) → last.lo ≤ last.hi → last.hi + 1 ≡ run.lo → run.lo ≤ run.hi → last.inheritable ≡ run.inheritable → HasSameNumbers (joined last run ∷ []) (last ∷ run ∷ [])
HasSameNumbers-joined last run ordered next not_empty same_sort n =
    let covered = covers-joined last run n ordered next not_empty in
    (or_same true true _ _ _ refl covered, or_same last.inheritable run.inheritable _ _ _ same_sort covered)

module _ (runs : List Run) (i : ℕ) (last : Run) (end : i + 1 ≡ length runs) (is_last : last ≡ get_or runs i last) where
  -- all runs but the last, and the last
  runs_split : runs ≡ take i runs ++ last ∷ []
  runs_split =
      sym (take_all (i + 1) runs (omega arith))
      ∙ take_more runs i last (omega arith)
      ∙ ap (λ run. take i runs ++ run ∷ []) (sym is_last)

  set_split : (run : Run) → set runs i run ≡ take i runs ++ run ∷ []
  set_split run =
      sym (take_all (i + 1) (set runs i run) (omega (arith, length-set runs i run)))
      ∙ take_more_set runs i run (omega arith)

  push_split : (run : Run) → take i runs ++ last ∷ run ∷ [] ≡ runs ++ run ∷ []
  push_split run = sym (append_assoc (take i runs) (last ∷ []) (run ∷ [])) ∙ ap (λ front. front ++ run ∷ []) (sym runs_split)

  module _ (canonical : IsCanonical runs) where
    last_is_run : IsRun last
    last_is_run = subst IsRun (sym is_last) (AreRuns-from_canonical runs canonical i last (omega arith))

    module _ (run : Run) (is_run : IsRun run) where
      module _ (next : last.hi + 1 ≡ run.lo) (same_sort : last.inheritable ≡ run.inheritable) where
        -- the last run ends where the run does that continues it
        pub IsCanonical-set : IsCanonical (set runs i (joined last run))
        IsCanonical-set =
            let joined_run : IsRun (joined last run) = record { first = last_is_run.first; ordered = omega (arith, last_is_run.ordered, is_run.ordered); last = is_run.last } in
            subst IsCanonical (sym (set_split (joined last run)))
            (IsCanonical-last (take i runs) last (joined last run) (subst IsCanonical runs_split canonical) joined_run refl refl)

        pub HasSameNumbers-set : HasSameNumbers (set runs i (joined last run)) (runs ++ run ∷ [])
        HasSameNumbers-set =
            let parts = HasSameNumbers-append (take i runs) (take i runs) (joined last run ∷ []) (last ∷ run ∷ []) (HasSameNumbers-refl (take i runs)) (HasSameNumbers-joined last run last_is_run.ordered next is_run.ordered same_sort) in
            subst (λ a. HasSameNumbers a (runs ++ run ∷ [])) (sym (set_split (joined last run)))
            (subst (HasSameNumbers (take i runs ++ joined last run ∷ [])) (push_split run) parts)

      -- the last run is apart from one that does not continue it
      pub IsCanonical-push : last.hi < run.lo → (last.hi + 1 ≡ run.lo → last.inheritable ≡ run.inheritable → ⊥) → IsCanonical (runs ++ run ∷ [])
      IsCanonical-push after apart =
          subst IsCanonical (push_split run)
          (IsCanonical-append (take i runs) last (run ∷ []) (subst IsCanonical runs_split canonical) (last_is_run, record { after = after; maximal = apart }, is_run))

-- a run is the first
pub IsCanonical-first : (runs : List Run) (run : Run) → length runs ≤ 0 → IsRun run → IsCanonical (runs ++ run ∷ [])
IsCanonical-first [] run none is_run = is_run
IsCanonical-first (first ∷ runs) run none is_run = absurd (omega arith)
