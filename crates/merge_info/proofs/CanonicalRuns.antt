-- Canonical lists of runs: the runs rise, and so no two of them clash.
use Rattle.merge_info.proofs.Common.{◌≡◌, ◌<◌, false, List, [], ◌∷◌, get_or, All, refl, ◌∙◌, arith, nat_tests, All-cons, All-nil, list_any_none, IsCanonical, Run, IsCanonical-head, IsCanonical-tail, has_clash}
use Rattle.merge_info.proofs.Clashes.{clash, has_clash-cons}

-- the first ends before the others begin
IsCanonical-first : (run : Run) (runs : List Run) → IsCanonical (run ∷ runs) → All (λ next. run.hi < next.lo) runs
IsCanonical-first run [] canonical = All-nil (λ next. run.hi < next.lo)
IsCanonical-first run (next ∷ runs) canonical =
    let rest = IsCanonical-first next runs canonical.2 in
    let is_next = IsCanonical-head next runs canonical.2 in
    All-cons (λ each. run.hi < each.lo) next runs canonical.1.after
    (λ k d below. omega (arith, rest k d below, canonical.1.after, is_next.ordered))

-- runs of which one ends before the other begins
clash-before : (a b : Run) → a.hi < b.lo → clash a b ≡ false
clash-before a b before = grind (arith, nat_tests)

-- no number is given both ways
pub has_clash-canonical : (runs : List Run) → IsCanonical runs → has_clash runs ≡ false
unfolding has_clash
has_clash-canonical [] canonical = refl
has_clash-canonical (run ∷ runs) canonical =
    let none = list_any_none (clash run) runs
    (λ k d below. clash-before run (get_or runs k d) (IsCanonical-first run runs canonical k d below)) in
    has_clash-cons run runs ∙ rw none (has_clash-canonical runs (IsCanonical-tail run runs canonical))
