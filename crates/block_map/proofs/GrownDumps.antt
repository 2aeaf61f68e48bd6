-- What a dump that grows keeps: the ends of its revisions but the last, the ticks of its records, and what is true of each
-- of them in the tree before it.
use Rattle.block_map.proofs.Common.{◌≡◌, ℕ, zero, suc, ◌+◌, ◌-◌, ◌<◌, ◌≤◌, Bool, inl, inr, List, [], ◌∷◌, ◌++◌, None, Option, Some, length, get_or, map, take, drop, fold, replicate, sum, refl, sym, ap, ap₂, ◌∙◌, arith, length-append, length-drop, take_all, option_and_then, cases_lt, drop-append-le, get_or_append_left, get_or_default, get_or-append_right, get_or-replicate, length-map, length-replicate, length-take-le, map-append, take-append-le, none-some, take-append-add, same_name, NameId, DumpValue, IsDump, IsActOf, IsRecordOf, history_view, record_view, records_by_revision, revisions_from, setting_view, Fault, fault_of, first_fault, History, Record, copy, fault_of_next_record, fault_of_next_record_from, fault_within, Tree, start_tree, tree_after_record, with_revision, Act, NodeRecord, map-same, slice_get-front, total, ends_of, record_at_tick, IsMapOf, IsMapOfFirstRecords, MapValue, records_at_ticks}
use Rattle.svn_dump.specs.Growth.{CountsGrow, GrowsTo}
use Rattle.svn_dump.specs.declared.record.Act.TheVariants as act
use Rattle.block_map.proofs.FaultsFound.{fault_of_next_record_from-within, fault_of_next_record_from-later}
use Rattle.block_map.proofs.FirstFaults.{first_fault-least}
use Rattle.block_map.proofs.MapsOfDumps.{IsMapOfFirstRecords-built}
use Rattle.block_map.proofs.RevisionEnds.{ends_of-at}
use Rattle.block_map.proofs.RevisionStates.{total-dump}
use Rattle.block_map.proofs.Sources.{rev_at-index}

-- ---- the ends of revisions

-- the counts before the last one stay
CountsGrow-take : (old new : List ℕ) (count : ℕ) → CountsGrow old new → count < length old → take count new ≡ take count old
CountsGrow-take [] new count grow within = absurd (omega (arith, within))
CountsGrow-take (x ∷ []) [] count grow within = elim grow [ ]
CountsGrow-take (x ∷ []) (y ∷ new) zero grow within = refl
CountsGrow-take (x ∷ []) (y ∷ new) (suc count) grow within = absurd (omega (arith, within))
CountsGrow-take (x ∷ next ∷ old) [] count grow within = elim grow [ ]
CountsGrow-take (x ∷ next ∷ old) (y ∷ new) zero grow within = refl
CountsGrow-take (x ∷ next ∷ old) (y ∷ new) (suc count) grow within = ap₂ (λ first more. first ∷ more) (sym grow.0) (CountsGrow-take (next ∷ old) new count grow.1 (omega (arith, within)))

-- there are no fewer
CountsGrow-length : (old new : List ℕ) → CountsGrow old new → length old ≤ length new
CountsGrow-length [] new grow = omega arith
CountsGrow-length (x ∷ []) [] grow = elim grow [ ]
CountsGrow-length (x ∷ []) (y ∷ new) grow = omega arith
CountsGrow-length (x ∷ next ∷ old) [] grow = elim grow [ ]
CountsGrow-length (x ∷ next ∷ old) (y ∷ new) grow = let more = CountsGrow-length (next ∷ old) new grow.1 in omega (arith, more)

-- so each revision before the last one ends where it did
CountsGrow-end : (old new : List ℕ) (rev : ℕ) → CountsGrow old new → rev + 1 < length old → get_or (ends_of new) rev 0 ≡ get_or (ends_of old) rev 0
CountsGrow-end old new rev grow within =
    let more = CountsGrow-length old new grow in
    ends_of-at new rev (omega (arith, within, more)) ∙ ap sum (CountsGrow-take old new (rev + 1) grow within) ∙ sym (ends_of-at old rev (omega (arith, within)))

-- ---- the ticks of records

-- records are of the revisions that are counted
revisions_from-within : (from : ℕ) (counts : List ℕ) (index : ℕ) → index < length (revisions_from from counts) → get_or (revisions_from from counts) index 0 < from + length counts
revisions_from-within from [] index within = absurd (omega (arith, within))
revisions_from-within from (count ∷ counts) index within = elim (cases_lt index count) [
  | inl first ↦
      let at = get_or_append_left (replicate count from) (revisions_from (from + 1) counts) 0 index (omega (arith, first, length-replicate count from)) in
      omega (arith, at, get_or-replicate count index from 0 first)
  | inr past ↦
      let at = get_or-append_right (replicate count from) (revisions_from (from + 1) counts) count index 0 (length-replicate count from) past in
      let more = revisions_from-within (from + 1) counts (index - count) (omega (arith, within, past, length-append (replicate count from) (revisions_from (from + 1) counts), length-replicate count from)) in
      omega (arith, at, more)
]

module _ (old new : DumpValue) (grows : GrowsTo old new) where
  -- the source of a copy stands at the tick at which it stood
  record-grown : (rev : ℕ) (path : List NameId) (does : Act) → rev < length old.counts → IsActOf old rev does
      → record_at_tick (ends_of new.counts) (record_view (record { rev = rev; path = path; act = does }))
      ≡ record_at_tick (ends_of old.counts) (record_view (record { rev = rev; path = path; act = does }))
  record-grown rev path act.Delete within of = refl
  record-grown rev path (act.Change mi) within of = refl
  record-grown rev path (act.Add replace kind mi) within of = refl
  record-grown rev path (act.Copy replace from from_rev mi) within of =
      let before = of.2 in
      ap (λ tick. record { path = path; action = copy replace from tick (setting_view mi) }) (CountsGrow-end old.counts new.counts from_rev grows.counts (omega (arith, within, before)))

  module _ (is : IsDump old) where
    -- the old records are at the ticks at which they were
    records-grown : records_at_ticks (ends_of new.counts) old.records ≡ records_at_ticks (ends_of old.counts) old.records
    records-grown =
        map-same (λ (each : NodeRecord). record_at_tick (ends_of new.counts) (record_view each)) (λ (each : NodeRecord). record_at_tick (ends_of old.counts) (record_view each)) old.records
        (λ k d within.
        let each = get_or old.records k d in
        let of : IsRecordOf old each = is.records k d within in
        let at = get_or_default old.records k each d within in
        let counted = revisions_from-within 0 old.counts k (omega (arith, within, ap length is.revisions, length-map old.records (λ (one : NodeRecord). one.rev))) in
        record-grown each.rev each.path each.act (omega (arith, counted, rev_at-index old is k each within at)) of.act)

    -- a map of the old dump is one of the first records of the new one
    pub IsMapOfFirstRecords-grown_dump : (map : MapValue) → IsMapOf old map → IsMapOfFirstRecords new map
    IsMapOfFirstRecords-grown_dump map of =
        let (more, all) = grows.records in
        let shown : MapValue = record { lo = 0; records = records_at_ticks (ends_of old.counts) old.records; nodes = 0 } in
        let looks = IsMapOfFirstRecords-built new shown old.records more refl all (sym records-grown) in
        record {
          lo = of.first.lo;
          within = (let whole = of.whole in omega (arith, whole, ap length all, length-append old.records more));
          looks = λ tick path within. of.first.looks tick path within ∙ looks.looks tick path (omega (arith, within, of.whole, length-map old.records (λ (each : NodeRecord). record_at_tick (ends_of old.counts) (record_view each))));
        }

-- ---- faults

module _ {C M : Type 0} (same : C → C → Bool) where
  -- the records after a record do not matter
  fault_within-front : (trees : List (Tree C M)) (records more : List (Record C M)) (count : ℕ) → count < length records → fault_within same trees (records ++ more) count ≡ fault_within same trees records count
  fault_within-front trees records more count within =
      ap₂ (λ (front : List (Record C M)) at. option_and_then (λ (each : Record C M). fault_of same trees (fold (tree_after_record same trees) (start_tree trees) front) each.path each.action) at)
      (take-append-le count records more (omega (arith, within))) (slice_get-front records more count within)

  -- the fault of an old record, counted from a revision on
  fault_from-grown : (trees : List (Tree C M)) (old new : List ℕ) (items more : List (Record C M)) (count : ℕ) → CountsGrow old new → total old ≡ length items → count < length items
      → fault_of_next_record_from same trees (records_by_revision new (items ++ more)) count ≡ fault_of_next_record_from same trees (records_by_revision old items) count
  fault_from-grown trees [] new items more count grow all early = absurd (omega (arith, all, early))
  fault_from-grown trees (x ∷ []) [] items more count grow all early = elim grow [ ]
  fault_from-grown trees (x ∷ []) (y ∷ new) items more count grow all early =
      let first : take y (items ++ more) ≡ items ++ take (y - length items) more = ap (λ n. take n (items ++ more)) (let is : y ≡ length items + (y - length items) = omega (arith, all, grow) in is) ∙ take-append-add items more (y - length items) in
      fault_of_next_record_from-within same trees (take y (items ++ more)) (records_by_revision new (drop y (items ++ more))) count (omega (arith, early, ap length first, length-append items (take (y - length items) more)))
      ∙ ap (λ records. fault_within same trees records count) first
      ∙ fault_within-front trees items (take (y - length items) more) count early
      ∙ ap (λ records. fault_within same trees records count) (sym (take_all x items (omega (arith, all))))
      ∙ sym (fault_of_next_record_from-within same trees (take x items) [] count (omega (arith, early, ap length (take_all x items (omega (arith, all))))))
  fault_from-grown trees (x ∷ next ∷ old) [] items more count grow all early = elim grow [ ]
  fault_from-grown trees (x ∷ next ∷ old) (y ∷ new) items more count grow all early =
      let long : x ≤ length items = omega (arith, all) in
      let first : take y (items ++ more) ≡ take x items = ap (λ n. take n (items ++ more)) (sym grow.0) ∙ take-append-le x items more long in
      let rest : drop y (items ++ more) ≡ drop x items ++ more = ap (λ n. drop n (items ++ more)) (sym grow.0) ∙ drop-append-le x items more long in
      ap₂ (λ records others. fault_of_next_record_from same trees (records ∷ records_by_revision new others) count) first rest
      ∙ elim (cases_lt count (length (take x items))) [
        | inl here ↦
            fault_of_next_record_from-within same trees (take x items) (records_by_revision new (drop x items ++ more)) count here
            ∙ sym (fault_of_next_record_from-within same trees (take x items) (records_by_revision (next ∷ old) (drop x items)) count here)
        | inr past ↦
            fault_of_next_record_from-later same trees (take x items) (records_by_revision new (drop x items ++ more)) count past
            ∙ fault_from-grown (with_revision same trees (take x items)) (next ∷ old) new (drop x items) more (count - length (take x items)) grow.1 (omega (arith, all, length-drop x items))
            (omega (arith, early, past, length-drop x items, length-take-le x items long))
            ∙ sym (fault_of_next_record_from-later same trees (take x items) (records_by_revision (next ∷ old) (drop x items)) count past)
      ]

  -- no record of a history without a first fault has one
  fine-at : (history : History C M) → first_fault same history ≡ None → (index : ℕ) → ((earlier : ℕ) → earlier < index → fault_of_next_record same history earlier ≡ None)
      → (found : Option Fault) → fault_of_next_record same history index ≡ found → fault_of_next_record same history index ≡ None
  fine-at history lawful index before None is = is
  fine-at history lawful index before (Some fault) is = absurd (none-some (index + 1, fault) (sym lawful ∙ first_fault-least same history index fault is before))

  fine-below : (history : History C M) → first_fault same history ≡ None → (bound index : ℕ) → index < bound → fault_of_next_record same history index ≡ None
  fine-below history lawful zero index below = absurd (omega (arith, below))
  fine-below history lawful (suc bound) index below =
      fine-at history lawful index (λ earlier before. fine-below history lawful bound earlier (omega (arith, below, before))) (fault_of_next_record same history index) refl

-- the old records of a lawful dump have no fault in the new one
pub fine-grown : (old new : DumpValue) → GrowsTo old new → IsDump old → first_fault same_name (history_view old) ≡ None
    → (index : ℕ) → index < length old.records → fault_of_next_record same_name (history_view new) index ≡ None
fine-grown old new grows is lawful index within =
    let (more, all) = grows.records in
    let items = map record_view old.records in
    let long = length-map old.records record_view in
    ap (λ records. fault_of_next_record same_name (records_by_revision new.counts records) index) (ap (map record_view) all ∙ map-append record_view old.records more)
    ∙ fault_from-grown same_name [] old.counts new.counts items (map record_view more) index grows.counts (total-dump old is ∙ sym long) (omega (arith, within, long))
    ∙ fine-below same_name (history_view old) lawful (index + 1) index (omega arith)
