-- The history of a dump's records, revision by revision, and the trees of a history's first revisions.
use Rattle.path_index.proofs.Common.{◌≡◌, ℕ, zero, suc, ◌+◌, ◌-◌, ◌<◌, ◌≤◌, ◌==◌, nat_lt, Bool, true, false, not, ◌&&◌, ◌||◌, if◌then◌else◌, List, [], ◌∷◌, ◌++◌, Option, None, Some, All, map, filter, take, drop, length, get_or, replicate, refl, sym, ap, subst, ◌∙◌, append-nil, arith, cases_lt, inl, inr, eq-eqb, ne_eqb, length-map, length-replicate, get_or-map, get_or-take, take-append-drop, take_at, drop_at, take-map, drop-map, take_more, All-nil, All-cons, All-append, All-replicate, All-head, All-tail, filter-append, DumpValue, record_view, records_by_revision, revisions_from, history_view, History, location, Tree, trees_of, NodeRecord, AreRising, records_in, records_of, history_to, names_below, came_from_itself, is_operative, operative_in, operative_from, operative_of, hit_at, Segment, same_location, with_location, segments_up_to, segments_of}
use Rattle.std.specs.Prelude.{AllPairs}
use Rattle.std.proofs.lemmas.List.{get_or_past}
use Rattle.std.proofs.lemmas.List.Kept.{AllPairs-cons}
use Rattle.svn_dump.proofs.FirstRevisions.{is_there-take, location-take, origin_of-take}
use Rattle.svn_dump.proofs.Grouped.{length-records_by_revision, map-records_by_revision}
use Rattle.path_index.proofs.Rising.{filter_all, filter_none}
use Rattle.path_index.proofs.DownFrom.{filter_down-same}

-- ---- what holds of mapped elements

All-from_map : {X Y : Type 0} (P : Y → Type 0) (f : X → Y) (xs : List X) → All P (map f xs) → All (λ x. P (f x)) xs
All-from_map P f xs all k d within = rw (get_or-map f xs k d (f d) within) at (all k (f d) (omega (arith, length-map xs f)))

AllPairs-from_map : {X Y : Type 0} (R : Y → Y → Type 0) (f : X → Y) (xs : List X) → AllPairs R (map f xs) → AllPairs (λ x y. R (f x) (f y)) xs
AllPairs-from_map R f xs all i j d before within =
    rw (get_or-map f xs i d (f d) (omega arith), get_or-map f xs j d (f d) within) at (all i j (f d) before (omega (arith, length-map xs f)))

-- ---- the order of a dump's records

-- no revision is before the first
revisions_from-up : (low from : ℕ) (counts : List ℕ) → low ≤ from → All (λ rev. low ≤ rev) (revisions_from from counts)
revisions_from-up low from [] up = All-nil (λ rev. low ≤ rev)
revisions_from-up low from (count ∷ counts) up =
    All-append (λ rev. low ≤ rev) (replicate count from) (revisions_from (from + 1) counts) (All-replicate (λ rev. low ≤ rev) count from up) (revisions_from-up low (from + 1) counts (omega arith))

-- and none is past the last
revisions_from-below : (from : ℕ) (counts : List ℕ) → All (λ rev. rev < from + length counts) (revisions_from from counts)
revisions_from-below from [] = All-nil (λ rev. rev < from + 0)
revisions_from-below from (count ∷ counts) =
    All-append (λ rev. rev < from + length (count ∷ counts)) (replicate count from) (revisions_from (from + 1) counts)
    (All-replicate (λ rev. rev < from + length (count ∷ counts)) count from (omega arith))
    (λ k d within. let below = revisions_from-below (from + 1) counts k d within in omega (arith, below))

rising_more : (count from : ℕ) (revs : List ℕ) → All (λ rev. from ≤ rev) revs → AllPairs (λ rev later. rev ≤ later) revs
    → AllPairs (λ rev later. rev ≤ later) (replicate count from ++ revs)
rising_more zero from revs up rising = rising
rising_more (suc count) from revs up rising =
    AllPairs-cons (λ rev later. rev ≤ later) from (replicate count from ++ revs)
    (All-append (λ rev. from ≤ rev) (replicate count from) revs (All-replicate (λ rev. from ≤ rev) count from (omega arith)) up)
    (rising_more count from revs up rising)

rising_revisions : (from : ℕ) (counts : List ℕ) → AllPairs (λ rev later. rev ≤ later) (revisions_from from counts)
rising_revisions from [] = λ i j d before within. absurd (omega arith)
rising_revisions from (count ∷ counts) =
    rising_more count from (revisions_from (from + 1) counts) (revisions_from-up from (from + 1) counts (omega arith)) (rising_revisions (from + 1) counts)

-- the records of a dump are in the order of their revisions
pub AreRising-from_revisions : (records : List NodeRecord) (counts : List ℕ) → map (λ each. each.rev) records ≡ revisions_from 0 counts → AreRising records
AreRising-from_revisions records counts revisions =
    AllPairs-from_map (λ rev later. rev ≤ later) (λ each. each.rev) records
    (subst (AllPairs (λ rev later. rev ≤ later)) (sym revisions) (rising_revisions 0 counts))

-- ---- the records of one revision of a dump

abbrev of_revision : List NodeRecord → ℕ → List NodeRecord
of_revision records rev = filter (λ each. each.rev == rev) records

module _ (count from : ℕ) (counts : List ℕ) (records : List NodeRecord)
    (revisions : map (λ each. each.rev) records ≡ replicate count from ++ revisions_from (from + 1) counts) where
  first_revisions : map (λ each. each.rev) (take count records) ≡ replicate count from
  first_revisions =
      sym (take-map (λ (each : NodeRecord). each.rev) count records) ∙ ap (take count) revisions
      ∙ take_at (replicate count from) (revisions_from (from + 1) counts) count (length-replicate count from)

  later_revisions : map (λ each. each.rev) (drop count records) ≡ revisions_from (from + 1) counts
  later_revisions =
      sym (drop-map (λ (each : NodeRecord). each.rev) count records) ∙ ap (drop count) revisions
      ∙ drop_at (replicate count from) (revisions_from (from + 1) counts) count (length-replicate count from)

  all_first : All (λ each. each.rev ≡ from) (take count records)
  all_first =
      All-from_map (λ rev. rev ≡ from) (λ each. each.rev) (take count records)
      (subst (All (λ rev. rev ≡ from)) (sym first_revisions) (All-replicate (λ rev. rev ≡ from) count from refl))

  all_later : All (λ each. from + 1 ≤ each.rev) (drop count records)
  all_later =
      All-from_map (λ rev. from + 1 ≤ rev) (λ each. each.rev) (drop count records)
      (subst (All (λ rev. from + 1 ≤ rev)) (sym later_revisions) (revisions_from-up (from + 1) (from + 1) counts (omega arith)))

  in_two : (rev : ℕ) → of_revision records rev ≡ of_revision (take count records) rev ++ of_revision (drop count records) rev
  in_two rev =
      ap (λ all. of_revision all rev) (sym (take-append-drop count records))
      ∙ filter-append (λ each. each.rev == rev) (take count records) (drop count records)

  -- the first so many records are of the first revision
  of_first : of_revision records from ≡ take count records
  of_first =
      in_two from
      ∙ (λ i. filter_all (λ each. each.rev == from) (take count records) (λ k d within. eq-eqb _ from (all_first k d within)) i
      ++ filter_none (λ each. each.rev == from) (drop count records) (λ k d within. ne_eqb _ from (λ e. let up = all_later k d within in omega (arith, e, up))) i)
      ∙ append-nil (take count records)

  -- and of no other
  of_later : (rev : ℕ) → from < rev → of_revision records rev ≡ of_revision (drop count records) rev
  of_later rev later =
      in_two rev
      ∙ ap (λ front. front ++ of_revision (drop count records) rev) (filter_none (λ each. each.rev == rev) (take count records) (λ k d within. ne_eqb _ rev (λ e. let at = all_first k d within in omega (arith, e, at))))

-- a group has the records of its revision
of_revision-records_by_revision : (from : ℕ) (counts : List ℕ) (records : List NodeRecord) → map (λ each. each.rev) records ≡ revisions_from from counts
    → (k rev : ℕ) → k < length counts → rev ≡ from + k → of_revision records rev ≡ get_or (records_by_revision counts records) k []
of_revision-records_by_revision from [] records revisions k rev within at = absurd (omega arith)
of_revision-records_by_revision from (count ∷ counts) records revisions zero rev within at =
    let first : rev ≡ from = omega arith in
    ap (of_revision records) first ∙ of_first count from counts records revisions
of_revision-records_by_revision from (count ∷ counts) records revisions (suc k) rev within at =
    of_later count from counts records revisions rev (omega arith)
    ∙ of_revision-records_by_revision (from + 1) counts (drop count records) (later_revisions count from counts records revisions) k rev (omega arith) (omega arith)

module _ (dump : DumpValue) (revisions : map (λ each. each.rev) dump.records ≡ revisions_from 0 dump.counts) where
  -- the records of a revision are those with its number
  pub records_of-records_by_revision : (rev : ℕ) → rev < length dump.counts → records_of dump.records rev ≡ get_or (history_view dump) rev []
  records_of-records_by_revision rev within =
      let groups = records_by_revision dump.counts dump.records in
      ap (map record_view) (of_revision-records_by_revision 0 dump.counts dump.records revisions rev rev within (omega arith))
      ∙ sym (get_or-map (map record_view) groups rev [] [] (omega (arith, length-records_by_revision dump.counts dump.records)))
      ∙ ap (λ history. get_or history rev []) (map-records_by_revision record_view dump.counts dump.records)

  -- past the youngest revision there are none
  records_of-past : (rev : ℕ) → length dump.counts ≤ rev → records_of dump.records rev ≡ []
  records_of-past rev past =
      ap (map record_view)
      (filter_none (λ each. each.rev == rev) dump.records
      (λ k d within.
      let below = All-from_map (λ each. each < 0 + length dump.counts) (λ each. each.rev) dump.records
      (subst (All (λ each. each < 0 + length dump.counts)) (sym revisions) (revisions_from-below 0 dump.counts)) k d within in
      ne_eqb _ rev (λ e. omega (arith, e, below))))

  -- so the records with the number of any revision are those that the history has in it
  pub records_of-history_view : (rev : ℕ) → records_of dump.records rev ≡ records_in (history_view dump) rev
  records_of-history_view rev =
      elim (cases_lt rev (length dump.counts)) [
        | inl within ↦ records_of-records_by_revision rev within
        | inr past ↦
            records_of-past rev past
            ∙ sym (get_or_past (history_view dump) rev [] (omega (arith, past, length-records_by_revision dump.counts (map record_view dump.records))))
      ]

  one_more : (rev : ℕ) → rev < length dump.counts → take (rev + 1) (history_view dump) ≡ take rev (history_view dump) ++ records_of dump.records rev ∷ []
  one_more rev within =
      take_more (history_view dump) rev [] (omega (arith, length-records_by_revision dump.counts (map record_view dump.records)))
      ∙ ap (λ records. take rev (history_view dump) ++ records ∷ []) (sym (records_of-records_by_revision rev within))

  -- so the history of the records up to a revision is the dump's up to there
  pub history_to-take : (rev : ℕ) → rev < length dump.counts → history_to dump.records rev ≡ take (rev + 1) (history_view dump)
  unfolding history_to
  history_to-take zero within = sym (one_more zero within)
  history_to-take (suc rev) within =
      let next : rev + 1 ≡ suc rev = omega arith in
      ap (λ history. history ++ records_of dump.records (suc rev) ∷ [])
      (history_to-take rev (omega arith) ∙ ap (λ n. take n (history_view dump)) next)
      ∙ sym (one_more (suc rev) within)

-- ---- the first revisions of a history

module _ {C M : Type 0} (same : C → C → Bool) (history : History C M) (last : ℕ) (within : last < length history) where
  abbrev front : History C M
  front = take (last + 1) history

  -- the segments
  pub segments_of-take : (path : List C) (peg : ℕ) → peg ≤ last
      → segments_of same (trees_of same front) path peg ≡ segments_of same (trees_of same history) path peg
  segments_of-take path peg before = λ i. segments_up_to same (λ rev. location-take same history last within path peg rev before i) peg

  is_operative-take : (path : List C) (rev : ℕ) → rev ≤ last
      → is_operative same front (trees_of same front) path rev ≡ is_operative same history (trees_of same history) path rev
  unfolding is_operative
  is_operative-take path rev before =
      let records = get_or-take (last + 1) history rev [] (omega arith) in
      λ i. nat_lt 0 rev && is_there-take same history last within path rev before i
      && (names_below same path (records i) || not (came_from_itself same path rev (origin_of-take same history last within path rev before i)))

  operative_in-take : (segment : Segment C) → segment.hi ≤ last → (path : Option (List C))
      → operative_in same front (trees_of same front) segment path ≡ operative_in same history (trees_of same history) segment path
  operative_in-take segment before None = refl
  operative_in-take segment before (Some path) =
      filter_down-same (is_operative same front (trees_of same front) path) (is_operative same history (trees_of same history) path)
      (segment.hi + 1 - segment.lo) segment.hi (omega arith) (λ rev up inside. is_operative-take path rev (omega arith))

  operative_from-take : (index : ℕ) (segments : List (Segment C)) → All (λ segment. segment.hi ≤ last) segments
      → operative_from same front (trees_of same front) index segments ≡ operative_from same history (trees_of same history) index segments
  unfolding operative_from
  operative_from-take index [] before = refl
  operative_from-take index (segment ∷ segments) before =
      λ i. map (hit_at index) (operative_in-take segment (All-head (λ segment. segment.hi ≤ last) segment segments before) segment.path i)
      ++ operative_from-take (index + 1) segments (All-tail (λ segment. segment.hi ≤ last) segment segments before) i

  -- and the operative revisions
  pub operative_of-take : (segments : List (Segment C)) → All (λ segment. segment.hi ≤ last) segments
      → operative_of same front (trees_of same front) segments ≡ operative_of same history (trees_of same history) segments
  operative_of-take segments before = operative_from-take 0 segments before

-- ---- the segments of a revision's path go up to that revision

abbrev UpTo : {C : Type 0} → ℕ → List (Segment C) → Type 0
UpTo rev segments = All (λ segment. segment.hi ≤ rev) segments

module _ {C : Type 0} (same : C → C → Bool) where
  by_test : (b : Bool) (rev : ℕ) (index : Option (List C)) (segment : Segment C) (segments : List (Segment C)) → UpTo rev (segment ∷ segments)
      → UpTo rev (if b then record segment { hi = rev } ∷ segments else record { lo = rev; hi = rev; path = index } ∷ segment ∷ segments)
  by_test true rev index segment segments up =
      All-cons (λ segment. segment.hi ≤ rev) (record segment { hi = rev }) segments (omega arith) (All-tail (λ segment. segment.hi ≤ rev) segment segments up)
  by_test false rev index segment segments up = All-cons (λ segment. segment.hi ≤ rev) (record { lo = rev; hi = rev; path = index }) (segment ∷ segments) (omega arith) up

  with_location-up : (rev : ℕ) (index : Option (List C)) (segments : List (Segment C)) → UpTo rev segments → UpTo rev (with_location same rev index segments)
  unfolding with_location
  with_location-up rev None [] up = up
  with_location-up rev (Some path) [] up = All-cons (λ segment. segment.hi ≤ rev) (record { lo = rev; hi = rev; path = Some path }) [] (omega arith) up
  with_location-up rev None (segment ∷ segments) up = by_test (same_location same None segment.path) rev None segment segments up
  with_location-up rev (Some path) (segment ∷ segments) up = by_test (same_location same (Some path) segment.path) rev (Some path) segment segments up

  segments_up_to-up : (index : ℕ → Option (List C)) (top : ℕ) → UpTo top (segments_up_to same index top)
  unfolding segments_up_to
  segments_up_to-up index zero = with_location-up zero (index zero) [] (All-nil (λ segment. segment.hi ≤ 0))
  segments_up_to-up index (suc rev) =
      with_location-up (suc rev) (index (suc rev)) (segments_up_to same index rev)
      (λ k d within. let up = segments_up_to-up index rev k d within in omega (arith, up))

  -- so do the segments of a path
  pub segments_of-up : {M : Type 0} (trees : List (Tree C M)) (path : List C) (peg : ℕ) → All (λ segment. segment.hi ≤ peg) (segments_of same trees path peg)
  segments_of-up trees path peg = segments_up_to-up (λ rev. location same trees path peg rev) peg
