-- The sums of the counts of revisions, and the borders between blocks of records.
use Rattle.svn_report.proofs.Common.{◌≡◌, ℕ, zero, suc, ◌+◌, ◌-◌, ◌^◌, ◌<◌, ◌≤◌, sum, List, [], ◌∷◌, length, map, get_or, take, refl, sym, ap, subst, ◌∙◌, arith, range_with_len, sum_by, ext_get_or, get_or-map, length-map, take-map, take-take, take_all, sum_by-cons, sum_by-take-le, DumpValue, IsDump, revisions_from, NodeRecord, AreJoinedUpTo, IsChain, Meet, end_of, ends_of, ends_view, AreBorders, last_border, AreRecordEnds, sum_at, sum_of}
use Rattle.std.specs.declared.alloc.AllocError.{AllocError}
use Rattle.std.specs.Prelude.{Err, IfOk, Ok, Result, Vec, vec_len}
use Rattle.std.specs.Global.{Global}
use Rattle.std.specs.List.{All}
use Rattle.std.proofs.lemmas.List.Elements.{All-from_get_or, All-map}
use Rattle.svn_dump.proofs.Lists.{map-same}
use Rattle.query_answer.proofs.RevisionTicks.{sum-counts}
use Rattle.par_scan.specs.Sum.{add_sum, no_border, sum_weighs, sum_weight}
use Rattle.par_scan.specs.declared.sum.Sum.{Sum}
use Rattle.block_map.proofs.RevisionEnds.{ends_of-at, length-ends_of}
use Rattle.block_map.proofs.RevisionStates.{end_of-within}

-- sums stand between no borders
Meet-sums : (sums : List Sum) → Meet no_border no_border sums
Meet-sums [] = tt
Meet-sums (only ∷ []) = tt
Meet-sums (earlier ∷ later ∷ rest) = (refl, Meet-sums (later ∷ rest))

-- they weigh what the counts add up to
weight-counts : (counts : List ℕ) → sum_by sum_weight (map sum_of counts) ≡ sum counts
weight-counts [] = refl
weight-counts (count ∷ counts) =
    omega (arith, sum_by-cons sum_weight (sum_of count) (map sum_of counts), sum_by-cons (λ (x : ℕ). x) count counts, weight-counts counts)

pub IsChain-counts : (dump : DumpValue) → IsDump dump → IsChain no_border no_border sum_weight (map sum_of dump.counts)
IsChain-counts dump is = record {
  meet = Meet-sums (map sum_of dump.counts);
  light = omega (arith, weight-counts dump.counts, sum-counts dump is, is.few_records);
}

-- what is joined up to each place is how many records there are up to each revision
AreRecordEnds-joined : (counts : List ℕ) (joined : List Sum) → length joined ≡ length (map sum_of counts) → AreJoinedUpTo add_sum no_border no_border (map sum_of counts) joined → AreRecordEnds counts joined
AreRecordEnds-joined counts joined len up_to = record {
  len = len ∙ length-map counts sum_of;
  each = λ rev below.
      let inside : rev < length (map sum_of counts) = omega (arith, length-map counts sum_of) in
      sum_weighs (take (rev + 1) (map sum_of counts)) (get_or joined rev (sum_of 0)) (up_to rev (sum_of 0) inside).acts
      ∙ ap (sum_by sum_weight) (take-map sum_of (rev + 1) counts)
      ∙ weight-counts (take (rev + 1) counts);
}

pub AreRecordEnds-scan : (counts : List ℕ) (sums : Vec Sum Global) (r : Result (Vec Sum Global) AllocError) → sums.items ≡ map sum_of counts → IfOk r (λ joined. vec_len joined ≡ vec_len sums) → IfOk r (λ joined. AreJoinedUpTo add_sum no_border no_border sums.items joined.items) → IfOk r (λ joined. AreRecordEnds counts joined.items)
AreRecordEnds-scan counts sums (Ok joined) is len up_to =
    let same : length joined.items ≡ length (map sum_of counts) = omega (arith, joined.ok.0, sums.ok.0, len, ap length is) in
    AreRecordEnds-joined counts joined.items same
    (subst (λ items. AreJoinedUpTo add_sum no_border no_border items joined.items) is up_to)
AreRecordEnds-scan counts sums (Err e) is len up_to = tt

module _ (counts : List ℕ) (sums : List Sum) (are : AreRecordEnds counts sums) where
  -- the sums are the ends of the revisions
  pub ends_view-sums : ends_view sums ≡ ends_of counts
  ends_view-sums =
      let len = length-map sums (λ (each : Sum). each.0) in
      ext_get_or 0 (ends_view sums) (ends_of counts) (omega (arith, len, are.len, length-ends_of counts))
      (λ rev below.
      let within : rev < length counts = omega (arith, len, are.len, below) in
      get_or-map (λ (each : Sum). each.0) sums rev (sum_of 0) 0 (omega (arith, within, are.len))
      ∙ are.each rev within ∙ sym (ends_of-at counts rev within))

-- which are small in a dump
pub ends_view-small : (dump : DumpValue) → IsDump dump → (sums : List Sum) → AreRecordEnds dump.counts sums
    → All (λ end. end < 2 ^ 32) (ends_view sums)
ends_view-small dump is sums are =
    subst (All (λ end. end < 2 ^ 32)) (sym (ends_view-sums dump.counts sums are))
    (All-map (λ end. end < 2 ^ 32) (end_of dump.counts) (range_with_len 0 (length dump.counts))
    (λ k d below. omega (arith, end_of-within dump (get_or (range_with_len 0 (length dump.counts)) k d) is, is.few_records)))

-- they rise
end_of-le : (counts : List ℕ) (i j : ℕ) → i ≤ j → end_of counts i ≤ end_of counts j
end_of-le counts i j h =
    let short = sum_by-take-le (λ (x : ℕ). x) (take (j + 1) counts) (i + 1) in
    let same = ap sum (take-take (i + 1) (j + 1) counts (omega arith)) in
    omega (arith, short, same)

-- revision 0 has no records
first-count : (records : List NodeRecord) (counts : List ℕ) → All (λ each. 0 < each.rev) records → map (λ each. each.rev) records ≡ revisions_from 0 counts → sum (take 1 counts) ≡ 0
first-count records [] above revisions = refl
first-count records (zero ∷ counts) above revisions = refl
first-count [] (suc count ∷ counts) above revisions = cc
first-count (r ∷ records) (suc count ∷ counts) above revisions =
    let rev : r.rev ≡ 0 = ap (λ l. get_or l 0 1) revisions in
    absurd (omega (arith, above 0 r (omega arith)))

pub some-counts : (counts : List ℕ) → (counts ≡ [] → ⊥) → 0 < length counts
some-counts [] some = absurd (some refl)
some-counts (count ∷ counts) some = omega arith

module _ (dump : DumpValue) (is : IsDump dump) (sums : List Sum) (are : AreRecordEnds dump.counts sums) (ends : List ℕ) (borders : AreBorders 0 (length sums - 1) ends) where
  -- each revision has a count
  end-below : (i : ℕ) → i < length ends → get_or ends i 0 < length sums
  end-below i inside =
      let some = some-counts dump.counts is.some_revision in
      let up = borders.rise i (length ends - 1) (omega arith) (omega arith) in
      omega (arith, some, up, borders.ends, are.len)

  pub ends-below : All (λ rev. rev < length sums) ends
  ends-below = All-from_get_or (λ rev. rev < length sums) ends 0 end-below

  sum_at-end : (i : ℕ) → i < length ends → get_or (map (sum_at sums) ends) i 0 ≡ end_of dump.counts (get_or ends i 0)
  sum_at-end i inside =
      get_or-map (sum_at sums) ends i 0 0 inside ∙ are.each (get_or ends i 0) (omega (arith, end-below i inside, are.len))

  -- there are so many records up to each of them
  pub map-sum_at : map (sum_at sums) ends ≡ map (end_of dump.counts) ends
  map-sum_at = map-same (sum_at sums) (end_of dump.counts) ends
      (λ k d below. are.each (get_or ends k d) (omega (arith, ends-below k d below, are.len)))

  -- up to revisions that rise from 0 to the last one the numbers of records rise from 0 to that of all records
  AreBorders-sums : AreBorders 0 (length dump.records) (map (sum_at sums) ends)
  AreBorders-sums =
      let some = some-counts dump.counts is.some_revision in
      let len = length-map ends (sum_at sums) in
      let last : length (map (sum_at sums) ends) - 1 ≡ length ends - 1 = omega (arith, len) in
      let above : All (λ each. 0 < each.rev) dump.records = λ k d below. (is.records k d below).above_zero in
      let whole : length dump.counts ≤ length sums - 1 + 1 = omega (arith, are.len, some) in
      record {
        some = omega (arith, len, borders.some);
        starts = sum_at-end 0 borders.some ∙ ap (end_of dump.counts) borders.starts ∙ first-count dump.records dump.counts above is.revisions;
        rise = λ i j h below.
            let inside : j < length ends = omega (arith, len) in
            let up = end_of-le dump.counts (get_or ends i 0) (get_or ends j 0) (borders.rise i j h inside) in
            omega (arith, up, sum_at-end i (omega arith), sum_at-end j inside);
        ends = ap (λ i. get_or (map (sum_at sums) ends) i 0) last
            ∙ sum_at-end (length ends - 1) (omega (arith, borders.some))
            ∙ ap (end_of dump.counts) borders.ends
            ∙ ap sum (take_all (length sums - 1 + 1) dump.counts whole)
            ∙ sum-counts dump is;
      }

  module _ (read : List ℕ) (same : read ≡ map (sum_at sums) ends) where
    -- the last of them is that of all records
    pub last_border-read : last_border read ≡ length dump.records
    last_border-read = ap last_border same ∙ AreBorders-sums.ends

    pub AreBorders-read : AreBorders 0 (last_border read) read
    AreBorders-read =
        subst (λ last. AreBorders 0 last read) (sym last_border-read)
        (subst (AreBorders 0 (length dump.records)) (sym same) AreBorders-sums)
