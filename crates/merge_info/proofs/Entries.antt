-- The search for the entry of a path.
use Rattle.merge_info.proofs.Common.{◌≡◌, ◌≢◌, ℕ, Bool, true, false, List, [], ◌∷◌, Ordering, ◌<◌, length, get_or, map, inl, inr, None, Some, bytes_eq, refl, sym, ap, subst, ◌∙◌, arith, both_ways, cases_lt, cases_order, false_from_ne_true, nat_list_cmp_total, get_or-map, length-map, All-map, bytes_eq-Decides, lists_agrees, slice_cmp, slice_partial_cmp, IsPartitionPoint, IsPartitionedBy, nat_cmp, is_lt, is_some_and, Less, Run, AreRising, IsEntry, IsMergeInfo, entry_view, ranges_of, some_runs, Entry}
use Rattle.merge_info.proofs.Each.{All-from_map_at}
use Rattle.merge_info.proofs.Rising.{AreRising-at, bytes_eq-before, runs_at-line}
use Rattle.merge_info.proofs.RunsAt.{runs_at-none}

-- what a test for `Less` says
before_from-is_lt : (order : Ordering) → is_lt order ≡ true → order ≡ Less
before_from-is_lt order tested = grind arith

-- what `<` of bytes tests
pub is_lt-slice_partial_cmp : (a b : List ℕ)
    → is_some_and is_lt (slice_partial_cmp (λ x y. Some (nat_cmp x y)) a b) ≡ is_lt (slice_cmp nat_cmp a b)
is_lt-slice_partial_cmp a b = ap (is_some_and is_lt) (lists_agrees (λ (x y : ℕ). refl) a b)

-- whether an entry's path is before a path
abbrev pub is_before : List ℕ → Entry → Bool
is_before path entry = is_lt (slice_cmp nat_cmp entry.path.items path)

-- a list with runs is some
some_runs-some : (runs : List Run) → runs ≢ [] → some_runs runs ≡ Some runs
some_runs-some [] some = absurd (some refl)
some_runs-some (run ∷ runs) some = refl

module _ (entries : List Entry) (path : List ℕ) where
  -- the entry of the path
  pub ranges_of-found : (i : ℕ) (entry : Entry) → IsMergeInfo (map entry_view entries) → i < length entries
      → entry ≡ get_or entries i entry → bytes_eq entry.path.items path ≡ true
      → ranges_of (map entry_view entries) path ≡ Some entry.ranges
  ranges_of-found i entry value below is same =
      let within : i < length (map entry_view entries) = omega (arith, length-map entries entry_view) in
      let at = get_or-map entry_view entries i entry (entry_view entry) below ∙ ap entry_view (sym is) in
      let runs = rw at at (runs_at-line (map entry_view entries) i (entry_view entry) value.rising within) in
      rw (← (bytes_eq-Decides entry.path.items path).0 same, runs)
      (some_runs-some entry.ranges (All-from_map_at IsEntry entry_view entries value.entries i entry below is).some)

  module _ (rising : AreRising (map entry_view entries)) where
    -- the path of an index is before those of greater ones
    before_later : (i k : ℕ) (d : Entry) → i < k → k < length entries
        → slice_cmp nat_cmp (get_or entries i d).path.items (get_or entries k d).path.items ≡ Less
    before_later i k d later below =
        let at = λ (j : ℕ) (within : j < length entries). get_or-map entry_view entries j d (entry_view d) within in
        let within : k < length (map entry_view entries) = omega (arith, length-map entries entry_view) in
        rw (at i (omega arith), at k below) at
        (AreRising-at (map entry_view entries) rising i k (entry_view d) later within)

    -- the entries before a path stand first
    pub IsPartitionedBy-is_before : IsPartitionedBy (is_before path) entries
    IsPartitionedBy-is_before i j d upto below tested = elim (cases_lt i j) [
      | inl earlier ↦
          ap is_lt (nat_list_cmp_total.trans (get_or entries i d).path.items (get_or entries j d).path.items path
          (before_later i j d earlier below) (before_from-is_lt _ tested))
      | inr same ↦ subst (λ k. is_before path (get_or entries k d) ≡ true) {x = j} (omega arith) tested
    ]

    -- the index at which it would stand, where another path stands or none
    pub ranges_of-not_found : (i : ℕ)
        → IsPartitionPoint (λ entry. is_before path entry ≡ true) (λ entry. is_before path entry ≡ false) entries i
        → ((d : Entry) → i < length entries → bytes_eq (get_or entries i d).path.items path ≡ false)
        → ranges_of (map entry_view entries) path ≡ None
    ranges_of-not_found i point other =
        ap some_runs (runs_at-none (map entry_view entries) path
        (All-map (λ line. bytes_eq line.path path ≡ false) entry_view entries (λ k d below. elim (cases_order k i) [
          | inl same ↦
              subst (λ j. bytes_eq (get_or entries j d).path.items path ≡ false) (sym same) (other d (omega arith))
          | inr (inl earlier) ↦ bytes_eq-before _ path (before_from-is_lt _ (point.0 k d (omega arith) earlier))
          | inr (inr later) ↦ false_from_ne_true _ (λ found. both_ways _ (point.1 i d (omega arith) (omega arith))
              (ap is_lt (subst (λ at. slice_cmp nat_cmp (get_or entries i d).path.items at ≡ Less)
              ((bytes_eq-Decides _ path).0 found) (before_later i k d later below))))
        ])))
