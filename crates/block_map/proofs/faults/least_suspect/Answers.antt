use Rattle.block_map.proofs.Common.{◌≡◌, ◌⊎◌, inl, inr, ℕ, ◌+◌, ◌-◌, ◌<◌, ◌≤◌, List, Option, None, Some, length, get_or, unwrap_or, ap, subst, ◌∙◌, arith, AllZip, cases_lt, AllZip-get_or, DumpValue, history_view, fault_of_next_record, same_name, ends_of, IsMapOf}
use Rattle.std.specs.Ordering.{nat_cmp}
use Rattle.std.proofs.lemmas.List.FromFn.{get_or-range_with_len, length-range_with_len}
use Rattle.std.proofs.lemmas.Slice.Zip.{AllZip-long}
use Rattle.rayon.specs.Lists.{IsLeast, range_start, range_end}
use Rattle.rayon.specs.Numbers.{nat_range}
use Rattle.rayon.proofs.ToStd.{nat_range-All, IsLeast-All}
use Rattle.block_map.proofs.faults.least_suspect.Goals as goal

-- the record of an index has no fault
abbrev IsFine : DumpValue → ℕ → Type 0
IsFine dump index = fault_of_next_record same_name (history_view dump) index ≡ None

-- a record's number, or the largest number, which is answered only where the record has no fault
abbrev IsAnswer : DumpValue → ℕ → ℕ → Type 0
IsAnswer dump number answer = ((answer ≡ number) ⊎ (answer ≡ 4294967295)) × (number < answer → IsFine dump (number - 1))

module _ (dump : DumpValue) (first count : ℕ) (answers : List ℕ) (each : AllZip (IsAnswer dump) (nat_range first (count + 1)) answers) where
  -- there is an answer for each number
  answers_count : length answers ≡ count + 1 - first
  answers_count =
      omega (arith, AllZip-long (IsAnswer dump) (nat_range first (count + 1)) answers each, length-range_with_len first (count + 1 - first))

  -- the answer of an index is that of the number so many after the first one
  answer_at : (index d : ℕ) → index < length answers → IsAnswer dump (first + index) (get_or answers index d)
  answer_at index d within =
      let long = length-range_with_len first (count + 1 - first) in
      let number : get_or (nat_range first (count + 1)) index 0 ≡ first + index =
      omega (arith, get_or-range_with_len first (count + 1 - first) index 0 (omega (arith, answers_count))) in
      subst (λ number. IsAnswer dump number (get_or answers index d)) number
      (AllZip-get_or (IsAnswer dump) (nat_range first (count + 1)) answers index 0 d each (omega (arith, long, answers_count)))

  -- the least answer, where it isn't the largest number, is the number of a record
  least_within : (least : Option ℕ) → IsLeast nat_cmp answers least → 1 ≤ first → unwrap_or least 4294967295 < 4294967295
      → (1 ≤ unwrap_or least 4294967295) × (unwrap_or least 4294967295 ≤ count)
  least_within None is some small = absurd (omega arith)
  least_within (Some m) is some small =
      elim (answer_at is.0.0 m is.0.1).0 [
        | inl own ↦ (omega (arith, own, is.0.2), omega (arith, own, is.0.1, is.0.2, answers_count))
        | inr largest ↦ absurd (omega (arith, largest, is.0.2))
      ]

  -- the records from the first number on that stand before it are fine
  fine_before : (least : Option ℕ) → IsLeast nat_cmp answers least
      → (index : ℕ) → first ≤ index + 1 → index < count → index + 1 < unwrap_or least 4294967295 → IsFine dump index
  fine_before None is index from within before = absurd (omega (arith, ap length is, answers_count))
  fine_before (Some m) is index from within before =
      let place = index + 1 - first in
      let inside : place < length answers = omega (arith, answers_count) in
      let above : m ≤ get_or answers place 0 = IsLeast-All answers (Some m) is place 0 inside in
      let here : first + place - 1 ≡ index = omega arith in
      subst (IsFine dump) here ((answer_at place 0 inside).1 (omega (arith, above)))

pub min-requires-clause-ready : goal.min-requires-clause-ready
min-requires-clause-ready g c κs within =
    let ends = c.into_par_iter.ensures in
    let count = length c.args.dump.now.records in
    let dump = c.args.dump.now in
    let map = c.args.map.now in
    let numbers = c.args.ends.now in
    let inside = nat_range-All (λ number. IsMapOf dump map × (numbers ≡ ends_of dump.counts) × (1 ≤ number) × (number ≤ count)) c.saturating_add-first.result (count + 1)
    (λ number low high. (c.requires.map, c.requires.ends, omega arith, omega arith)) in
    rw (c.map.ensures.base, c.map.ensures.f, ends.0, ends.1, c.records.ensures.value) (λ k d lt. (inside k d lt, λ y p. tt))

pub returns : goal.returns
returns g c =
    let dump = c.args.dump.now in
    let count = length dump.records in
    let first = c.saturating_add-first.result in
    let ends = c.into_par_iter.ensures in
    let done = c.min.ensures in
    let end : length c.records.result.now + 1 ≡ count + 1 = ap (λ records. length records + 1) c.records.ensures.value in
    let numbers : done.1.0 ≡ nat_range first (count + 1) =
    done.1.1 ∙ ap (λ it. nat_range (range_start it) (range_end it)) c.map.ensures.base ∙ (λ i. nat_range (ends.0 i) ((ends.1 ∙ end) i)) in
    let captured : c.map.result.f.1.now ≡ dump = ap (λ f. f.1.now) c.map.ensures.f in
    let each : AllZip (IsAnswer dump) (nat_range first (count + 1)) done.0 =
    subst (λ dump. AllZip (IsAnswer dump) (nat_range first (count + 1)) done.0) captured
    (subst (λ numbers. AllZip (IsAnswer c.map.result.f.1.now) numbers done.0) numbers done.1.2) in
    rw c.unwrap_or.ensures
    (record {
      within = least_within dump first count done.0 each c.min.result done.2 (omega arith);
      fine = λ index within before. elim (cases_lt index c.args.checked) [
        | inl known ↦ c.requires.checked index known
        | inr later ↦ fine_before dump first count done.0 each c.min.result done.2 index (omega arith) within before
      ];
      kept = c.records.ensures.kept;
    })
