-- The canonical value of lines has their runs, and is the only value that has.
use Rattle.merge_info.proofs.Common.{◌≡◌, ℕ, false, List, [], ◌∷◌, All, filter, map, bytes_eq, get_or, inl, inr, refl, sym, ap, subst, ◌∙◌, arith, Ordering, both_ways, cases_Bool, nat_list_cmp_total, get_or-map, length-map, All-nil, All-cons, All-head, All-tail, All-append, All-filter, All-map, filter_passes, Any-from_list_any, bytes_eq-Decides, slice_cmp, list_any, match_ordering, nat_cmp, ordering_reverse, Less, Equal, Greater, IsCanonical, IsRun, Run, canonical_runs-HasSameNumbers, canonical_runs-IsCanonical, HasSameNumbers-refl, HasSameNumbers-sym, HasSameNumbers-trans, canonical_value, has_runs, insert_path, is_some_run, entry_at, paths_of, IsLine, IsPrintedPath, Line, AreRising, HasSameRevisions, IsMergeInfo, runs_at}
use Rattle.std.proofs.lemmas.Map.Lookups.{exact_bytes}
use Rattle.std.proofs.lemmas.Map.Views.{All-insert_key}
use Rattle.std.specs.BTreeSet.{insert_key}
use Rattle.merge_info.proofs.Each.{All-from_list_any, All-from_map}
use Rattle.merge_info.proofs.OnlyValues.{same_values}
use Rattle.merge_info.proofs.Rising.{AreRising-cons, AreRising-filter, AreRising-first, AreRising-tail, IsPathBefore, runs_at-line}
use Rattle.merge_info.proofs.RunsAt.{runs_at-none}

-- ---- lines without those that have no runs

is_some_run-none : (runs : List Run) → is_some_run runs ≡ false → runs ≡ []
is_some_run-none [] none = refl
is_some_run-none (run ∷ runs) none = cc

pub runs_at-filter : (lines : List Line) (path : List ℕ) → runs_at (filter has_runs lines) path ≡ runs_at lines path
runs_at-filter [] path = refl
runs_at-filter (line ∷ lines) path =
    let rest = runs_at-filter lines path in
    let none = is_some_run-none line.runs in
    grind arith

pub IsMergeInfo-filter : (lines : List Line) → All (λ line. IsPrintedPath line.path) lines
    → All (λ line. IsCanonical line.runs) lines → AreRising lines → IsMergeInfo (filter has_runs lines)
IsMergeInfo-filter lines paths runs rising = record {
  entries = λ k d below. record {
    path = All-filter has_runs (λ line. IsPrintedPath line.path) lines paths k d below;
    canonical = All-filter has_runs (λ line. IsCanonical line.runs) lines runs k d below;
    some = λ none. both_ways _ (ap is_some_run none) (filter_passes has_runs lines k d below);
  };
  rising = AreRising-filter has_runs lines rising;
}

-- ---- paths in order

insert_path-insert_key : (path : List ℕ) (paths : List (List ℕ))
    → insert_path path paths ≡ insert_key (slice_cmp nat_cmp) paths path
insert_path-insert_key path [] = refl
insert_path-insert_key path (first ∷ paths) = rw (insert_path-insert_key path paths) refl

insert_path-All : (P : List ℕ → Type 0) (path : List ℕ) (paths : List (List ℕ)) → P path → All P paths
    → All P (insert_path path paths)
insert_path-All P path paths new all =
    rw (insert_path-insert_key path paths) (All-insert_key (slice_cmp nat_cmp) path P paths all new)

-- and back
All-insert_path : (P : List ℕ → Type 0) (path : List ℕ) (paths : List (List ℕ)) → All P (insert_path path paths)
    → P path × All P paths
All-insert_path P path [] = λ all. (All-head P path [] all, All-nil P)
All-insert_path P path (first ∷ paths) = by (All-insert_path P path paths) (slice_cmp nat_cmp path first) refl
  where
    by : (All P (insert_path path paths) → P path × All P paths)
        → (order : Ordering) → slice_cmp nat_cmp path first ≡ order
        → All P (match_ordering order (path ∷ first ∷ paths) (first ∷ paths) (first ∷ insert_path path paths))
        → P path × All P (first ∷ paths)
    by later Less is all = (All-head P path (first ∷ paths) all, All-tail P path (first ∷ paths) all)
    by later Equal is all = (subst P (sym (exact_bytes path first is)) (All-head P first paths all), all)
    by later Greater is all =
        let (new, rest) = later (All-tail P first (insert_path path paths) all) in
        (new, All-cons P first paths (All-head P first (insert_path path paths) all) rest)

module _ (P : List ℕ → Type 0) where
  paths_of-All : (lines : List Line) → All (λ line. P line.path) lines → All P (paths_of lines)
  paths_of-All [] all = All-nil P
  paths_of-All (line ∷ lines) all =
      insert_path-All P line.path (paths_of lines) (All-head (λ line. P line.path) line lines all)
      (paths_of-All lines (All-tail (λ line. P line.path) line lines all))

  All-paths_of : (lines : List Line) → All P (paths_of lines) → All (λ line. P line.path) lines
  All-paths_of [] all = All-nil (λ line. P line.path)
  All-paths_of (line ∷ lines) all =
      let (first, rest) = All-insert_path P line.path (paths_of lines) all in
      All-cons (λ line. P line.path) line lines first (All-paths_of lines rest)

-- ---- the canonical value

AreRuns-runs_at : (lines : List Line) (path : List ℕ) → All IsLine lines → All IsRun (runs_at lines path)
AreRuns-runs_at [] path all = All-nil IsRun
AreRuns-runs_at (line ∷ lines) path all =
    let rest = AreRuns-runs_at lines path (All-tail IsLine line lines all) in
    elim (cases_Bool (bytes_eq line.path path)) [
      | inl same ↦ rw same (All-append IsRun line.runs (runs_at lines path) (All-head IsLine line lines all).runs rest)
      | inr other ↦ rw other rest
    ]

module _ (lines : List Line) where
  abbrev entries_at : List (List ℕ) → List Line
  entries_at paths = map (entry_at lines) paths

  -- its paths rise
  AreRising-insert_path : (path : List ℕ) (paths : List (List ℕ)) → AreRising (entries_at paths)
      → AreRising (entries_at (insert_path path paths))
  AreRising-insert_path path [] rising = tt
  AreRising-insert_path path (first ∷ paths) rising =
      by (AreRising-insert_path path paths (AreRising-tail (entry_at lines first) (entries_at paths) rising))
      (slice_cmp nat_cmp path first) refl
    where
      by : AreRising (entries_at (insert_path path paths)) → (order : Ordering) → slice_cmp nat_cmp path first ≡ order
          → AreRising (entries_at
          (match_ordering order (path ∷ first ∷ paths) (first ∷ paths) (first ∷ insert_path path paths)))
      by rest Less is = (is, rising)
      by rest Equal is = rising
      by rest Greater is =
          let others = AreRising-first (entry_at lines first) (entries_at paths) rising in
          let before = insert_path-All (λ each. IsPathBefore first (entry_at lines each)) path paths
          (nat_list_cmp_total.antisymm first path ∙ ap ordering_reverse is)
          (All-from_map (IsPathBefore first) (entry_at lines) paths others) in
          AreRising-cons (entry_at lines first) (entries_at (insert_path path paths))
          (All-map (IsPathBefore first) (entry_at lines) (insert_path path paths) before) rest

  AreRising-paths_of : (some : List Line) → AreRising (entries_at (paths_of some))
  AreRising-paths_of [] = tt
  AreRising-paths_of (line ∷ some) = AreRising-insert_path line.path (paths_of some) (AreRising-paths_of some)

  module _ (all : All IsLine lines) where
    pub IsMergeInfo-canonical_value : IsMergeInfo (canonical_value lines)
    unfolding canonical_value
    IsMergeInfo-canonical_value =
        IsMergeInfo-filter (entries_at (paths_of lines))
        (All-map (λ line. IsPrintedPath line.path) (entry_at lines) (paths_of lines)
        (paths_of-All IsPrintedPath lines (λ k d below. (all k d below).path)))
        (All-map (λ line. IsCanonical line.runs) (entry_at lines) (paths_of lines)
        (λ k d below. canonical_runs-IsCanonical (runs_at lines (get_or (paths_of lines) k d))))
        (AreRising-paths_of lines)

    pub HasSameRevisions-canonical_value : HasSameRevisions (canonical_value lines) lines
    unfolding canonical_value
    HasSameRevisions-canonical_value path =
        let paths = paths_of lines in
        rw (runs_at-filter (entries_at paths) path) (elim (cases_Bool (list_any (λ each. bytes_eq each path) paths)) [
          | inl there ↦
              let (k, each, below, is, same) = Any-from_list_any (λ each. bytes_eq each path) paths there in
              let at = get_or-map (entry_at lines) paths k each (entry_at lines each) below ∙ ap (entry_at lines) is in
              let runs = rw at at (runs_at-line (entries_at paths) k (entry_at lines each) (AreRising-paths_of lines)
              (omega (arith, length-map paths (entry_at lines), below))) in
              rw (← (bytes_eq-Decides each path).0 same, runs)
              (canonical_runs-HasSameNumbers (runs_at lines each) (AreRuns-runs_at lines each all))
          | inr absent ↦
              let apart = All-from_list_any (λ each. bytes_eq each path) paths absent in
              rw (
                runs_at-none (entries_at paths) path
                    (All-map (λ line. bytes_eq line.path path ≡ false) (entry_at lines) paths apart),
                runs_at-none lines path (All-paths_of (λ each. bytes_eq each path ≡ false) lines apart),
              )
              (HasSameNumbers-refl [])
        ])

    -- no other value has them
    pub canonical_value-only : (value : List Line) → IsMergeInfo value → HasSameRevisions value lines
        → value ≡ canonical_value lines
    canonical_value-only value is same =
        same_values value (canonical_value lines) is IsMergeInfo-canonical_value
        (λ path. HasSameNumbers-trans _ (runs_at lines path) _ (same path)
        (HasSameNumbers-sym _ _ (HasSameRevisions-canonical_value path)))
