-- Rangelists, of which the values of `svn:mergeinfo` are made (Subversion book, "Branching and Merging", "Mergeinfo and
-- previews"): finite sets of revision numbers, each of which is inheritable or not.
use Rattle.std.specs.Prelude.{◌≡◌, ◌≢◌, ℕ, ◌+◌, ◌<◌, ◌≤◌, nat_le, nat_lt, ◌==◌, Bool, ◌&&◌, not, List, [], ◌∷◌, ◌++◌, Option, Some, None, filter, if◌then◌else◌}
use Rattle.std.specs.Bool.{beq}
use Rattle.std.specs.List.{list_any}
use Rattle.svn_text.specs.Number.{greatest_revision}
use Rattle.range_list.specs.declared.run.Run.{Run}

abbrev pub covers : Run → ℕ → Bool
covers run n = nat_le run.lo n && nat_le n run.hi

-- some run has the number
abbrev pub is_in : List Run → ℕ → Bool
is_in runs n = list_any (λ run. covers run n) runs

-- some inheritable run has the number: a number given both ways is inheritable
abbrev pub is_inheritable : List Run → ℕ → Bool
is_inheritable runs n = list_any (λ run. run.inheritable && covers run n) runs

-- whether the number is inheritable, if it is in the set
abbrev pub inheritability_of : List Run → ℕ → Option Bool
inheritability_of runs n = if is_in runs n then Some (is_inheritable runs n) else None

pub record IsRun (run : Run) : Type 0 where
  pub first : 1 ≤ run.lo
  pub ordered : run.lo ≤ run.hi
  pub last : run.hi ≤ greatest_revision

-- the second run begins above the end of the first, and does not continue it
pub record IsApart (a b : Run) : Type 0 where
  pub after : a.hi < b.lo
  pub maximal : a.hi + 1 ≡ b.lo → a.inheritable ≢ b.inheritable

abbrev pub is_apart : Run → Run → Bool
is_apart a b = nat_lt a.hi b.lo && not ((a.hi + 1 == b.lo) && beq a.inheritable b.inheritable)

-- the runs rise, and are as long as they can be
abbrev pub IsCanonical : List Run → Type 0
IsCanonical [] = Unit {0}
IsCanonical (run ∷ []) = IsRun run
IsCanonical (run ∷ next ∷ runs) = IsRun run × IsApart run next × IsCanonical (next ∷ runs)

-- the two lists have the same numbers, inheritable in both or in neither
abbrev pub HasSameNumbers : List Run → List Run → Type 0
HasSameNumbers a b = (n : ℕ) → (is_in a n ≡ is_in b n) × (is_inheritable a n ≡ is_inheritable b n)

abbrev pub inheritable_runs : List Run → List Run
inheritable_runs runs = filter (λ run. run.inheritable) runs

-- the part has the inheritable numbers of all, and those alone
abbrev pub IsInheritablePart : List Run → List Run → Type 0
IsInheritablePart all part = (n : ℕ) → (is_in part n ≡ is_inheritable all n) × (is_inheritable part n ≡ is_inheritable all n)

-- no other canonical list has the same numbers
abbrev pub IsOnlyCanonical : List Run → Type 0
IsOnlyCanonical runs = (other : List Run) → IsCanonical other → HasSameNumbers other runs → other ≡ runs

-- the new list has the numbers of the old one and those from lo to hi
abbrev pub AddsRun : List Run → List Run → ℕ → ℕ → Bool → Type 0
AddsRun old new lo hi inheritable = HasSameNumbers new (old ++ record { lo = lo; hi = hi; inheritable = inheritable } ∷ [])
