-- What is kept of records, as records are added.
use Rattle.path_index.proofs.Common.{◌≡◌, ◌≢◌, ℕ, ◌+◌, ◌-◌, ◌<◌, ◌≤◌, Bool, true, false, leb, ltb, List, [], ◌∷◌, ◌++◌, length, get_or, slice_get, map, drop, Some, inl, inr, refl, sym, ap, ap₂, subst, ◌∙◌, arith, length-append, append-nil, IsNonDecreasing, IsNonDecreasingBy, IsPartitionPoint, cases_lt, ltb-true, ltb-false, get_or_append_left, get_or-append-add, length-map, get_or-map, map-append, All-append, All-map, All-weaker, All-nil, All-cons, none-some, same_Some, slice_get_within, same_name, NameId, Act, NodeRecord, record_view, AreRising, IsCopy, SetsOrigin, SetsPath, moved_by, AreCopies, AreKept, revs_of, CopiesFrom, IsCopied, Copied, slice_get-first, slice_get-second, slice_get-before, slice_get-after, slice_get-push, AllPairs-append}
use Rattle.svn_dump.specs.declared.record.Act.TheVariants as act
use Rattle.svn_dump.specs.declared.record.Mi.{Mi}
use Rattle.path_index.specs.Records.{copied_by}
use Rattle.path_index.proofs.CopiesInOrder.{copied_from-both}
use Rattle.path_index.proofs.Rising.{IsNonDecreasingBy-AllPairs}
use Rattle.path_index.proofs.RecordEffects.{SetsOrigin-Copy, below_from_copy}

-- ---- the copies of two lists of records

module _ {records more : List NodeRecord} {copies others : List Copied} (one : AreCopies records copies) (other : AreCopies more others) where
  abbrev moved : List Copied
  moved = map (moved_by (length records)) others

  long : length moved ≡ length others
  long = length-map others (moved_by (length records))

  moved_at : (k : ℕ) (d : Copied) → k < length others → (get_or moved k d).index ≡ (get_or others k d).index + length records
  moved_at k d within = ap (λ (c : Copied). c.index) (get_or-map (moved_by (length records)) others k d d within)

  first : (copied : Copied) → IsCopied records copied → IsCopied (records ++ more) copied
  first copied so = record { each = so.each; at = slice_get-first records more copied.index so.each so.at; to = so.to; from = so.from }

  second : (copied : Copied) → IsCopied more copied → IsCopied (records ++ more) (moved_by (length records) copied)
  second copied so = record {
    each = so.each;
    at = (let is : copied.index + length records ≡ length records + copied.index = omega arith in rw is (slice_get-second records more copied.index so.each so.at));
    to = so.to;
    from = so.from;
  }

  pub AreCopies-append : AreCopies (records ++ more) (copies ++ moved)
  AreCopies-append = record {
    sound =
        All-append (IsCopied (records ++ more)) copies moved (All-weaker (IsCopied records) (IsCopied (records ++ more)) first copies one.sound)
        (All-map (IsCopied (records ++ more)) (moved_by (length records)) others (All-weaker (IsCopied more) (λ copied. IsCopied (records ++ more) (moved_by (length records) copied)) second others other.sound));
    complete = λ index each at copy. elim (cases_lt index (length records)) [
      | inl before ↦
          let has = one.complete index each (slice_get-before records more index each before at) copy in
          let within = has.within in
          record { number = has.number; within = omega (arith, length-append copies moved); is = λ d. rw (get_or_append_left copies moved d has.number within) (has.is d) }
      | inr past ↦
          let has = other.complete (index - length records) each (slice_get-after records more index each past at) copy in
          let within = has.within in
          record {
            number = length copies + has.number;
            within = omega (arith, length-append copies moved, long);
            is = λ d. let here = has.is d in rw (get_or-append-add copies moved has.number d) (omega (arith, here, past, moved_at has.number d within));
          }
    ];
    rising = AllPairs-append (λ one later. one.index < later.index) copies moved one.rising
        (λ i j d before within. let less = other.rising i j d before (omega (arith, long)) in omega (arith, less, moved_at i d (omega (arith, long)), moved_at j d (omega (arith, long))))
        (λ i j d low inside.
        let so = one.sound i d low in
        let early = slice_get_within records (get_or copies i d).index so.each so.at in
        omega (arith, early, moved_at j d (omega (arith, long))));
    exact = ap₂ (λ front back. front ++ map (moved_by (length records)) back) one.exact other.exact ∙ sym (copied_from-both records more);
  }

-- ---- one record more

module _ (each : NodeRecord) where
  only : (index : ℕ) (other : NodeRecord) → slice_get (each ∷ []) index ≡ Some other → (index ≡ 0) × (other ≡ each)
  only index other at = elim (slice_get-push [] each index other at) [ inl none ↦ absurd (none-some other none) | inr is ↦ is ]

  exact-one : (copied : Copied) (a : Act) → copied.index ≡ 0 → each.path ≡ copied.to → CopiesFrom copied.from copied.from_rev a → copied ∷ [] ≡ copied_by 0 each.path a
  exact-one copied (act.Copy replace source source_rev mi) first to (from, from_rev) =
      λ i. record { index = first i; to = sym to i; from = sym from i; from_rev = sym from_rev i } ∷ []
  exact-one copied act.Delete first to so = absurd so
  exact-one copied (act.Change mi) first to so = absurd so
  exact-one copied (act.Add replace kind mi) first to so = absurd so

  exact-none : (a : Act) → (IsCopy a → ⊥) → [] ≡ copied_by 0 each.path a
  exact-none (act.Copy replace source source_rev mi) no_copy = absurd (no_copy tt)
  exact-none act.Delete no_copy = refl
  exact-none (act.Change mi) no_copy = refl
  exact-none (act.Add replace kind mi) no_copy = refl

  AreCopies-one : (copied : Copied) → copied.index ≡ 0 → each.path ≡ copied.to → CopiesFrom copied.from copied.from_rev each.act → AreCopies (each ∷ []) (copied ∷ [])
  AreCopies-one copied first to from = record {
    sound = All-cons (IsCopied (each ∷ [])) copied [] (record { each = each; at = ap (slice_get (each ∷ [])) first; to = to; from = from }) (All-nil (IsCopied (each ∷ [])));
    complete = λ index other at copy. record { number = 0; within = omega arith; is = λ d. first ∙ sym (only index other at).0 };
    rising = λ i j d before within. absurd (omega arith);
    exact = exact-one copied each.act first to from ∙ sym (append-nil (copied_by 0 each.path each.act));
  }

  AreCopies-none : (IsCopy each.act → ⊥) → AreCopies (each ∷ []) []
  AreCopies-none no_copy = record {
    sound = All-nil (IsCopied (each ∷ []));
    complete = λ index other at copy. absurd (no_copy (rw (only index other at).1 at copy));
    rising = λ i j d before within. absurd (omega arith);
    exact = exact-none each.act no_copy ∙ sym (append-nil (copied_by 0 each.path each.act));
  }

  pub AreCopies_push : {records : List NodeRecord} {copies : List Copied} (copied : Copied) → AreCopies records copies → length records ≡ copied.index → each.path ≡ copied.to → CopiesFrom copied.from copied.from_rev each.act
      → AreCopies (records ++ each ∷ []) (copies ++ copied ∷ [])
  AreCopies_push {records = records} {copies = copies} copied so index to from =
      let one : Copied = record { index = 0; to = copied.to; from = copied.from; from_rev = copied.from_rev } in
      let is : 0 + length records ≡ copied.index = omega (arith, index) in
      subst (λ n. AreCopies (records ++ each ∷ []) (copies ++ record { index = n; to = copied.to; from = copied.from; from_rev = copied.from_rev } ∷ [])) is (AreCopies-append so (AreCopies-one one refl to from))

  pub AreCopies-same : {records : List NodeRecord} {copies : List Copied} → AreCopies records copies → (IsCopy each.act → ⊥) → AreCopies (records ++ each ∷ []) copies
  AreCopies-same {copies = copies} so no_copy = rw (append-nil copies) at (AreCopies-append so (AreCopies-none no_copy))

-- ---- all that is kept

pub AreKept-append : {records more : List NodeRecord} {revs others : List ℕ} {copies later : List Copied} → AreKept records revs copies → AreKept more others later
    → AreKept (records ++ more) (revs ++ others) (copies ++ map (moved_by (length records)) later)
AreKept-append {records = records} {more = more} one other = record {
  of_revs = (λ i. one.of_revs i ++ other.of_revs i) ∙ sym (map-append (λ (each : NodeRecord). each.rev) records more);
  of_copies = AreCopies-append one.of_copies other.of_copies;
}

-- ---- what is found

some_record : NodeRecord
some_record = record { rev = 0; path = []; act = act.Delete }

-- the revisions stand in their order
pub IsNonDecreasing-revs : (records : List NodeRecord) → AreRising records → IsNonDecreasing (revs_of records)
IsNonDecreasing-revs records rising i j d before within =
    let rev = λ (each : NodeRecord). each.rev in
    let low : j < length records = omega (arith, within, length-map records rev) in
    let rises = IsNonDecreasingBy-AllPairs rev records rising i j some_record before low in
    omega (arith, rises, get_or-map rev records i some_record d (omega (arith, low)), get_or-map rev records j some_record d low)

pub IsPartitionPoint-revs : (records : List NodeRecord) (rev count : ℕ) → count ≤ length records → IsPartitionPoint (λ each. leb each rev ≡ true) (λ each. leb each rev ≡ false) (revs_of records) count
    → IsPartitionPoint (λ each. leb each.rev rev ≡ true) (λ each. leb each.rev rev ≡ false) records count
IsPartitionPoint-revs records rev count bound point = (
  λ k d from below. rw (get_or-map (λ (each : NodeRecord). each.rev) records k d 0 (omega (arith, bound))) at (point.0 k 0 from below),
  λ k d from within. rw (get_or-map (λ (each : NodeRecord). each.rev) records k d 0 within) at (point.1 k 0 from (omega (arith, within, length-map records (λ (each : NodeRecord). each.rev)))),
)

pub IsNonDecreasingBy-indices : {records : List NodeRecord} {copies : List Copied} → AreCopies records copies → IsNonDecreasingBy (λ each. each.index) copies
IsNonDecreasingBy-indices {copies = copies} are = IsNonDecreasingBy-AllPairs (λ each. each.index) copies (λ i j d before within. let rises = are.rising i j d before within in omega (arith, rises))

-- where no copy is of the index, its record does not copy
pub no_copy_at : {records : List NodeRecord} {copies : List Copied} (index number : ℕ) → AreCopies records copies → IsPartitionPoint (λ each. ltb each.index index ≡ true) (λ each. ltb each.index index ≡ false) copies number
    → ((d : Copied) → number < length copies → (get_or copies number d).index ≢ index) → (each : NodeRecord) → slice_get records index ≡ Some each → IsCopy each.act → ⊥
no_copy_at {copies = copies} index number are point other each at copy =
    let has = are.complete index each at copy in
    let k = has.number in
    let within : k < length copies = has.within in
    let d : Copied = record { index = 0; to = []; from = []; from_rev = 0 } in
    let here : (get_or copies k d).index ≡ index = has.is d in
    elim (cases_lt k number) [
      | inl before ↦ let less = ltb-true (get_or copies k d).index index (point.0 k d (omega arith) before) in omega (arith, less, here)
      | inr after ↦
          let inside : number < length copies = omega arith in
          let rises = IsNonDecreasingBy-indices are number k d after within in
          let high = ltb-false (get_or copies number d).index index (point.1 number d (omega arith) inside) in
          let is : (get_or copies number d).index ≡ index = omega (arith, rises, high, here) in other d inside is
    ]

copied_act : (a : Act) (from : List NameId) (from_rev : ℕ) → CopiesFrom from from_rev a → (replace : Bool) × (mi : Mi) × (a ≡ act.Copy replace from from_rev mi)
copied_act (act.Copy replace source source_rev mi) from from_rev (is, is_rev) = (replace, mi, λ i. act.Copy replace (is i) (is_rev i) mi)
copied_act act.Delete from from_rev so = absurd so
copied_act (act.Change mi) from from_rev so = absurd so
copied_act (act.Add replace kind mi) from from_rev so = absurd so

-- the origin by a copy
pub SetsOrigin-copied : (records : List NodeRecord) (path : List NameId) (index : ℕ) (copied : Copied) (each : NodeRecord) → IsCopied records copied → copied.index ≡ index → slice_get records index ≡ Some each → SetsPath each path
    → (source : List NameId) → source ≡ copied.from ++ drop (length copied.to) path → SetsOrigin same_name path (Some (source, copied.from_rev)) (record_view each)
SetsOrigin-copied records path index copied each so index_is at sets source is =
    let same : so.each ≡ each = same_Some so.each each (sym so.at ∙ ap (slice_get records) index_is ∙ at) in
    let (replace, mi, copies) = copied_act each.act copied.from copied.from_rev (rw same at so.from) in
    let to : copied.to ≡ each.path = sym so.to ∙ ap (λ (r : NodeRecord). r.path) same in
    SetsOrigin-Copy each path replace copied.from copied.from_rev mi copies source (below_from_copy each path replace copied.from copied.from_rev mi copies sets)
    (is ∙ ap (λ p. copied.from ++ drop (length p) path) to)
