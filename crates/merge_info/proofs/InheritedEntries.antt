-- The entries that a path inherits of a value whose paths keep their order.
use Rattle.merge_info.proofs.Common.{◌≡◌, ℕ, ◌+◌, ◌<◌, cond, List, [], ◌∷◌, ◌++◌, filter, take, get_or, length, map, refl, arith, list_any, common_steps, All-map, IsCanonical, inheritable_runs, Run, IsCanonical-filter, has_runs, inherited_value, is_some_run, inherited_line, inherited_lines, IsPrintedPath, Line, entry_view, AreRising, IsMergeInfo, MergeInfoValue, runs_at, Entry, HasSameNumbers-refl}
use Rattle.merge_info.proofs.CanonicalValues.{IsMergeInfo-filter, canonical_value-only, runs_at-filter}
use Rattle.merge_info.proofs.Inheriting.{AreLines-inherited}

-- ---- what is inherited

abbrev pub inherited_entries : List ℕ → MergeInfoValue → List Line
inherited_entries rest value = filter has_runs (inherited_lines rest value)

-- where the paths keep their order, these are the canonical ones
pub inherited_entries-canonical : (rest : List ℕ) (value : MergeInfoValue) → IsPrintedPath rest → IsMergeInfo value
    → AreRising (inherited_lines rest value) → inherited_entries rest value ≡ inherited_value rest value
inherited_entries-canonical rest value printed is rising =
    let lines = inherited_lines rest value in
    let are_lines = AreLines-inherited rest value printed is.entries in
    let canonical = All-map (λ line. IsCanonical line.runs) (inherited_line rest) value
    (λ k d below. IsCanonical-filter (get_or value k d).runs (is.entries k d below).canonical) in
    canonical_value-only lines are_lines (inherited_entries rest value)
    (IsMergeInfo-filter lines (λ k d below. (are_lines k d below).path) canonical rising)
    (λ path. rw (runs_at-filter lines path) (HasSameNumbers-refl (runs_at lines path)))

-- ---- entry by entry

-- the test for inheritable runs
is_some_run-inheritable : (runs : List Run)
    → is_some_run (inheritable_runs runs) ≡ list_any (λ run. run.inheritable) runs
is_some_run-inheritable [] = refl
is_some_run-inheritable (run ∷ runs) = grind (arith, is_some_run-inheritable runs)

pub inherited_entries-next : (rest : List ℕ) (entries : List Entry) (i : ℕ) (entry : Entry) → i < length entries
    → entry ≡ get_or entries i entry
    → inherited_entries rest (map entry_view (take (i + 1) entries))
    ≡ inherited_entries rest (map entry_view (take i entries))
    ++ cond (list_any (λ run. run.inheritable) entry.ranges) (inherited_line rest (entry_view entry) ∷ []) []
inherited_entries-next rest entries i entry within is =
    let same = is_some_run-inheritable entry.ranges in
    grind (arith, common_steps)
