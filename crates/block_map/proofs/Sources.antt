-- The source of each copy stands before the copy.
use Rattle.block_map.proofs.Common.{◌≡◌, ℕ, zero, suc, ◌+◌, ◌-◌, ◌<◌, ◌≤◌, inl, inr, All, List, [], ◌∷◌, length, get_or, map, take, drop, replicate, sum, sym, ap, subst, ◌∙◌, arith, length-append, cases_lt, get_or_append_left, get_or-append_right, get_or-replicate, get_or-map, get_or-take, length-map, length-replicate, length-take, take-map, drop-map, drop_at, All-map, All-drop, All-weaker, sum_by-cons, get_or_from_slice_get, slice_get_within, DumpValue, IsDump, IsActOf, IsRecordOf, action_view, record_view, history_view, records_by_revision, revisions_from, Action, delete, change, add, copy, History, Act, NodeRecord, end_of, ends_of, HasSourceBefore, HaveSources}
use Rattle.svn_dump.specs.declared.record.Act.TheVariants as act
use Rattle.block_map.proofs.RevisionEnds.{ends_of-at, length-ends_of}

-- one revision more at the front is so many records more
pub end_of-cons : (count : ℕ) (counts : List ℕ) (rev : ℕ) → end_of (count ∷ counts) (suc rev) ≡ count + end_of counts rev
end_of-cons count counts rev =
    let next : suc rev + 1 ≡ suc (rev + 1) = omega arith in
    ap (λ n. sum (take n (count ∷ counts))) next ∙ sum_by-cons (λ (x : ℕ). x) count (take (rev + 1) counts)

-- the first revision ends after its records
pub end_of-zero : (count : ℕ) (counts : List ℕ) → end_of (count ∷ counts) 0 ≡ count
end_of-zero count counts = omega (arith, sum_by-cons (λ (x : ℕ). x) count [])

-- where the revisions after the first end by an index, so does each from the first on, if the records of the first do
ends_by-cons : (count : ℕ) (counts : List ℕ) (from index last rev : ℕ) → count ≤ index → from + rev < last
    → ((rev : ℕ) → from + 1 + rev < last → (rev < length counts) × (end_of counts rev ≤ index - count))
    → (rev < length (count ∷ counts)) × (end_of (count ∷ counts) rev ≤ index)
ends_by-cons count counts from index last zero past before more = (omega arith, omega (arith, end_of-zero count counts))
ends_by-cons count counts from index last (suc rev) past before more =
    let (within, ends) = more rev (omega arith) in
    (omega arith, omega (arith, end_of-cons count counts rev))

-- a revision before that of the record at a index ends there at the latest
pub end_of-before : (from : ℕ) (counts : List ℕ) (index rev : ℕ) → index < length (revisions_from from counts)
    → from + rev < get_or (revisions_from from counts) index 0 → (rev < length counts) × (end_of counts rev ≤ index)
end_of-before from [] index rev within before = absurd (omega arith)
end_of-before from (count ∷ counts) index rev within before =
    elim (cases_lt index count) [
      | inl first ↦
          absurd (omega (
            arith,
            get_or_append_left (replicate count from) (revisions_from (from + 1) counts) 0 index (omega (arith, length-replicate count from)),
            get_or-replicate count index from 0 first,
          ))
      | inr past ↦
          let here = get_or (revisions_from (from + 1) counts) (index - count) 0 in
          let later : get_or (revisions_from from (count ∷ counts)) index 0 ≡ here =
          get_or-append_right (replicate count from) (revisions_from (from + 1) counts) count index 0 (length-replicate count from) past in
          let within_more : index - count < length (revisions_from (from + 1) counts) =
          omega (arith, length-append (replicate count from) (revisions_from (from + 1) counts), length-replicate count from) in
          ends_by-cons count counts from index here rev past (subst (λ r. from + rev < r) later before)
          (λ rev before. end_of-before (from + 1) counts (index - count) rev within_more before)
    ]

module _ (dump : DumpValue) (is : IsDump dump) where
  -- the revision of a record, by its index
  pub rev_at-index : (index : ℕ) (each : NodeRecord) → index < length dump.records → get_or dump.records index each ≡ each
      → get_or (revisions_from 0 dump.counts) index 0 ≡ each.rev
  rev_at-index index each within at =
      ap (λ revs. get_or revs index 0) (sym is.revisions) ∙ get_or-map (λ each. each.rev) dump.records index each 0 within ∙ ap (λ each. each.rev) at

  -- the source of a copy at a index, of that revision, stands before it
  sources_of : (index : ℕ) (each : NodeRecord) (act : Act) → index < length (revisions_from 0 dump.counts)
      → get_or (revisions_from 0 dump.counts) index 0 ≡ each.rev → IsActOf dump each.rev act
      → HasSourceBefore (ends_of dump.counts) (0 + index + 1) act
  sources_of index each act.Delete within at of = tt
  sources_of index each (act.Change mi) within at of = tt
  sources_of index each (act.Add replace kind mi) within at of = tt
  sources_of index each (act.Copy replace from from_rev mi) within at of =
      let before = end_of-before 0 dump.counts index from_rev within (omega (arith, of.2)) in
      (omega (arith, before.0, length-ends_of dump.counts), omega (arith, before.1, ends_of-at dump.counts from_rev before.0))

-- the source of each copy of a dump stands before it
pub HaveSources-dump : (dump : DumpValue) → IsDump dump → HaveSources 0 (ends_of dump.counts) dump.records
HaveSources-dump dump is index each at =
    let within = slice_get_within dump.records index each at in
    let here = get_or_from_slice_get dump.records index each each at in
    let of : IsRecordOf dump each = subst (IsRecordOf dump) here (is.records index each within) in
    sources_of dump is index each each.act (omega (arith, ap length is.revisions, length-map dump.records (λ each. each.rev)))
    (rev_at-index dump is index each within here) of.act

-- ---- histories

-- the source of a copy is of a smaller revision than this
abbrev pub IsFromBelow : {C M : Type 0} → ℕ → Action C M → Type 0
IsFromBelow rev delete = Unit {0}
IsFromBelow rev (change setting) = Unit {0}
IsFromBelow rev (add replace kind setting) = Unit {0}
IsFromBelow rev (copy replace from from_rev setting) = from_rev < rev

-- the source of each copy of these revisions, of which the first has this number, is of a smaller revision than the copy
abbrev pub AreFromBelow : {C M : Type 0} → ℕ → History C M → Type 0
AreFromBelow rev [] = Unit {0}
AreFromBelow rev (records ∷ history) = All (λ each. IsFromBelow rev each.action) records × AreFromBelow (rev + 1) history

module _ (dump : DumpValue) where
  -- an action of a dump has its source below its revision
  view_is_from_below : (rev : ℕ) (act : Act) → IsActOf dump rev act → IsFromBelow rev (action_view act)
  view_is_from_below rev act.Delete of = tt
  view_is_from_below rev (act.Change mi) of = tt
  view_is_from_below rev (act.Add replace kind mi) of = tt
  view_is_from_below rev (act.Copy replace from from_rev mi) of = of.2

  -- and so have the actions of its revisions
  views_are_from_below : (from : ℕ) (counts : List ℕ) (records : List NodeRecord) → All (λ each. IsActOf dump each.rev each.act) records
      → map (λ each. each.rev) records ≡ revisions_from from counts → AreFromBelow from (records_by_revision counts (map record_view records))
  views_are_from_below from [] records all revisions = tt
  views_are_from_below from (count ∷ counts) records all revisions = (
    subst (All (λ each. IsFromBelow from each.action)) (sym (take-map record_view count records))
        (All-map (λ each. IsFromBelow from each.action) record_view (take count records) first),
    subst (λ more. AreFromBelow (from + 1) (records_by_revision counts more)) (sym (drop-map record_view count records))
        (views_are_from_below (from + 1) counts (drop count records) (All-drop (λ each. IsActOf dump each.rev each.act) count records all)
        (sym (drop-map (λ (each : NodeRecord). each.rev) count records) ∙ ap (drop count) revisions
        ∙ drop_at (replicate count from) (revisions_from (from + 1) counts) count (length-replicate count from))),
  )
    where
      first : All (λ each. IsFromBelow from (action_view each.act)) (take count records)
      first k d within =
          let before : k < count = omega (arith, length-take count records) in
          let inside : k < length records = omega (arith, length-take count records) in
          let at : (get_or records k d).rev ≡ from =
          sym (get_or-map (λ each. each.rev) records k d 0 inside) ∙ ap (λ revs. get_or revs k 0) revisions
          ∙ get_or_append_left (replicate count from) (revisions_from (from + 1) counts) 0 k (omega (arith, length-replicate count from))
          ∙ get_or-replicate count k from 0 before in
          subst (λ each. IsFromBelow from (action_view each.act)) (sym (get_or-take count records k d before))
          (subst (λ rev. IsFromBelow rev (action_view (get_or records k d).act)) at
          (view_is_from_below (get_or records k d).rev (get_or records k d).act (all k d inside)))

  -- it is so in the history of a dump
  pub AreFromBelow-history_view : IsDump dump → AreFromBelow 0 (history_view dump)
  AreFromBelow-history_view is =
      views_are_from_below 0 dump.counts dump.records
      (All-weaker (IsRecordOf dump) (λ each. IsActOf dump each.rev each.act) (λ each of. of.act) dump.records is.records) is.revisions
