-- The copies of records in the order of the records.
use Rattle.path_index.proofs.Common.{◌≡◌, ℕ, suc, ◌+◌, ◌<◌, ◌≤◌, Bool, true, false, nat_le, nat_lt, ltb, List, [], ◌∷◌, ◌++◌, All, length, get_or, map, min, take, drop, drop-map, take-map, filter, refl, sym, ap, ap₂, subst, ◌∙◌, inl, inr, arith, append_assoc, append-nil, length-append, length-map, length-drop, length-take-le, map-append, take-append-drop, get_or-take, get_or-drop, get_or_append_left, get_or-append-add, filter-append, cases_lt, le-leb, lt-ltb, leb-true, ltb-true, ltb-false, le-ltb, All-append, All-cons, All-nil, All-weaker, IsPartitionPoint, NameId, Act, NodeRecord, AreRising, AreCopies, IsCountUpTo, Copied, moved_by}
use Rattle.std.proofs.lemmas.List.{append_cancel_left}
use Rattle.std.proofs.lemmas.List.Elements.{filter_map-append}
use Rattle.std.proofs.Math.ListN.{drop_of_length-le}
use Rattle.std.proofs.Math.Seq.{drop-append_seam, take-append_seam}
use Rattle.std.proofs.lemmas.Bool.{lt-leb}
use Rattle.std.specs.List.{cons_option}
use Rattle.svn_dump.specs.declared.record.Act.TheVariants as act
use Rattle.path_index.specs.Copies.{copies_between, copies_of, copies_up_to, copy_by, copy_of, copy_view, is_between, is_up_to, Copy}
use Rattle.path_index.specs.Records.{copied_by, copied_from}
use Rattle.path_index.proofs.Rising.{filter_all, filter_none}

-- ---- the copies of two lists of records

copied_by-moved : (shift index : ℕ) (to : List NameId) (a : Act) → copied_by (index + shift) to a ≡ map (moved_by shift) (copied_by index to a)
copied_by-moved shift index to (act.Copy replace from from_rev mi) = refl
copied_by-moved shift index to act.Delete = refl
copied_by-moved shift index to (act.Change mi) = refl
copied_by-moved shift index to (act.Add replace kind mi) = refl

copied_from-moved : (shift index : ℕ) (records : List NodeRecord) → copied_from (index + shift) records ≡ map (moved_by shift) (copied_from index records)
copied_from-moved shift index [] = refl
copied_from-moved shift index (each ∷ records) =
    let next : (index + shift) + 1 ≡ (index + 1) + shift = omega arith in
    ap₂ (λ one more. one ++ more) (copied_by-moved shift index each.path each.act) (ap (λ n. copied_from n records) next ∙ copied_from-moved shift (index + 1) records)
    ∙ sym (map-append (moved_by shift) (copied_by index each.path each.act) (copied_from (index + 1) records))

copied_from-append : (index : ℕ) (records more : List NodeRecord) → copied_from index (records ++ more) ≡ copied_from index records ++ copied_from (index + length records) more
copied_from-append index [] more = let here : index ≡ index + 0 = omega arith in ap (λ n. copied_from n more) here
copied_from-append index (each ∷ records) more =
    let next : (index + 1) + length records ≡ index + suc (length records) = omega arith in
    ap (λ rest. copied_by index each.path each.act ++ rest)
    (copied_from-append (index + 1) records more ∙ ap (λ n. copied_from (index + 1) records ++ copied_from n more) next)
    ∙ sym (append_assoc (copied_by index each.path each.act) (copied_from (index + 1) records) (copied_from (index + suc (length records)) more))

-- those of the second list come after those of the first, and are of later records
pub copied_from-both : (records more : List NodeRecord) → copied_from 0 (records ++ more) ≡ copied_from 0 records ++ map (moved_by (length records)) (copied_from 0 more)
copied_from-both records more =
    copied_from-append 0 records more
    ∙ ap (λ rest. copied_from 0 records ++ rest) (copied_from-moved (length records) 0 more)

-- ---- what is kept of a copy

view-copied_by : (index : ℕ) (to : List NameId) (a : Act) (rest : List Copied) (others : List Copy) → map copy_view rest ≡ others
    → map copy_view (copied_by index to a ++ rest) ≡ cons_option (copy_by to a) others
view-copied_by index to (act.Copy replace from from_rev mi) rest others is = ap (λ more. record { to = to; from = from; from_rev = from_rev } ∷ more) is
view-copied_by index to act.Delete rest others is = is
view-copied_by index to (act.Change mi) rest others is = is
view-copied_by index to (act.Add replace kind mi) rest others is = is

pub copies_of-copied_from : (index : ℕ) (records : List NodeRecord) → map copy_view (copied_from index records) ≡ copies_of records
copies_of-copied_from index [] = refl
copies_of-copied_from index (each ∷ records) =
    view-copied_by index each.path each.act (copied_from (index + 1) records) (copies_of records) (copies_of-copied_from (index + 1) records)

-- ---- the copies of the first records

copied_by-index : (P : ℕ → Type 0) (index : ℕ) (to : List NameId) (a : Act) → P index → All (λ copied. P copied.index) (copied_by index to a)
copied_by-index P index to (act.Copy replace from from_rev mi) so =
    All-cons (λ copied. P copied.index) (record { index = index; to = to; from = from; from_rev = from_rev }) [] so (All-nil (λ copied. P copied.index))
copied_by-index P index to act.Delete so = All-nil (λ copied. P copied.index)
copied_by-index P index to (act.Change mi) so = All-nil (λ copied. P copied.index)
copied_by-index P index to (act.Add replace kind mi) so = All-nil (λ copied. P copied.index)

copied_from-below : (n index : ℕ) (records : List NodeRecord) → index + length records ≤ n → All (λ copied. copied.index < n) (copied_from index records)
copied_from-below n index [] few = All-nil (λ copied. copied.index < n)
copied_from-below n index (each ∷ records) few =
    All-append (λ copied. copied.index < n) (copied_by index each.path each.act) (copied_from (index + 1) records)
    (copied_by-index (λ k. k < n) index each.path each.act (omega (arith, few)))
    (copied_from-below n (index + 1) records (omega (arith, few)))

copied_from-above : (n index : ℕ) (records : List NodeRecord) → n ≤ index → All (λ copied. n ≤ copied.index) (copied_from index records)
copied_from-above n index [] high = All-nil (λ copied. n ≤ copied.index)
copied_from-above n index (each ∷ records) high =
    All-append (λ copied. n ≤ copied.index) (copied_by index each.path each.act) (copied_from (index + 1) records)
    (copied_by-index (λ k. n ≤ k) index each.path each.act high)
    (copied_from-above n (index + 1) records (omega (arith, high)))

no_copy : Copied
no_copy = record { index = 0; to = []; from = []; from_rev = 0 }

-- a partition by an index lies between those below it and the others
point_at-seam : (front back : List Copied) (n k : ℕ) → All (λ copied. copied.index < n) front → All (λ copied. n ≤ copied.index) back → k ≤ length (front ++ back)
    → IsPartitionPoint (λ each. ltb each.index n ≡ true) (λ each. ltb each.index n ≡ false) (front ++ back) k → k ≡ length front
point_at-seam front back n k below above bound point = elim (cases_lt k (length front)) [
  | inl early ↦
      let high = ltb-false (get_or (front ++ back) k no_copy).index n (point.1 k no_copy (omega arith) (omega (arith, early, length-append front back))) in
      let is = ap (λ (copied : Copied). copied.index) (get_or_append_left front back no_copy k early) in
      let low = below k no_copy early in
      absurd (omega (arith, high, is, low))
  | inr past ↦ elim (cases_lt (length front) k) [
    | inl late ↦
        let low = ltb-true (get_or (front ++ back) (length front) no_copy).index n (point.0 (length front) no_copy (omega arith) late) in
        let is = ap (λ (copied : Copied). copied.index) (ap (λ m. get_or (front ++ back) m no_copy) (let e : length front ≡ length front + 0 = omega arith in e) ∙ get_or-append-add front back 0 no_copy) in
        let high = above 0 no_copy (omega (arith, late, bound, length-append front back)) in
        absurd (omega (arith, high, is, low))
    | inr same ↦ omega (arith, past, same)
  ]
]

-- the records up to a revision are the first ones
first_records : (records : List NodeRecord) (rev count : ℕ) → IsCountUpTo rev records count → filter (is_up_to rev) records ≡ take count records
first_records records rev count are =
    let bound : count ≤ length records = are.bound in
    let long = length-take-le count records bound in
    let front : All (λ each. is_up_to rev each ≡ true) (take count records) =
    λ k d within. rw (get_or-take count records k d (omega (arith, within, long))) (are.point.0 k d (omega arith) (omega (arith, within, long))) in
    let back : All (λ each. is_up_to rev each ≡ false) (drop count records) =
    λ k d within. rw (get_or-drop count records k d) (are.point.1 (count + k) d (omega arith) (omega (arith, within, length-drop count records))) in
    ap (filter (is_up_to rev)) (sym (take-append-drop count records))
    ∙ filter-append (is_up_to rev) (take count records) (drop count records)
    ∙ ap₂ (λ one more. one ++ more) (filter_all (is_up_to rev) (take count records) front) (filter_none (is_up_to rev) (drop count records) back)
    ∙ append-nil (take count records)

-- so many copies are of the revisions up to this one
pub count-copies_up_to : {records : List NodeRecord} {copies : List Copied} → AreCopies records copies → (rev count k : ℕ) → IsCountUpTo rev records count → k ≤ length copies
    → IsPartitionPoint (λ each. ltb each.index count ≡ true) (λ each. ltb each.index count ≡ false) copies k → k ≡ length (copies_up_to rev records)
count-copies_up_to {records = records} {copies = copies} are rev count k counted bound point =
    let first = take count records in
    let last = drop count records in
    let low : count ≤ length records = counted.bound in
    let long = length-take-le count records low in
    let front = copied_from 0 first in
    let back = copied_from (length first) last in
    let split : copies ≡ front ++ back = are.exact ∙ ap (copied_from 0) (sym (take-append-drop count records)) ∙ copied_from-append 0 first last ∙ ap (λ n. front ++ copied_from n last) (let zero : 0 + length first ≡ length first = omega arith in zero) in
    let at = point_at-seam front back count k (copied_from-below count 0 first (omega (arith, long))) (copied_from-above count (length first) last (omega (arith, long)))
    (subst (λ (all : List Copied). k ≤ length all) split bound)
    (subst (λ (all : List Copied). IsPartitionPoint (λ each. ltb each.index count ≡ true) (λ each. ltb each.index count ≡ false) all k) split point) in
    at ∙ sym (length-map front copy_view) ∙ ap length (copies_of-copied_from 0 first) ∙ ap (λ some. length (copies_of some)) (sym (first_records records rev count counted))

-- ---- the copies between two revisions

abbrev is_after : ℕ → NodeRecord → Bool
is_after rev each = nat_lt rev each.rev

-- the records up to a revision come first
up_to-first : (rev : ℕ) (records : List NodeRecord) → AreRising records → records ≡ filter (is_up_to rev) records ++ filter (is_after rev) records
up_to-first rev [] rising = refl
up_to-first rev (each ∷ records) rising = elim (cases_lt rev each.rev) [
  | inl past ↦
      let later : All (λ (other : NodeRecord). rev < other.rev) records = λ k d within. let less = rising 0 (suc k) d (omega arith) (omega (arith, within)) in omega (arith, past, less) in
      let after : All (λ other. is_after rev other ≡ true) records = All-weaker (λ (other : NodeRecord). rev < other.rev) (λ other. is_after rev other ≡ true) (λ other less. lt-ltb rev other.rev less) records later in
      let none : All (λ other. is_up_to rev other ≡ false) records = All-weaker (λ (other : NodeRecord). rev < other.rev) (λ other. is_up_to rev other ≡ false) (λ other less. lt-leb other.rev rev less) records later in
      rw (lt-ltb rev each.rev past, lt-leb each.rev rev past, filter_all (is_after rev) records after, filter_none (is_up_to rev) records none) refl
  | inr within ↦
      rw (le-ltb rev each.rev within, le-leb each.rev rev within) (ap (λ more. each ∷ more) (up_to-first rev records (λ i j d before low. rising (suc i) (suc j) d (omega (arith, before)) (omega (arith, low)))))
]

filter_both : (above up_to : ℕ) (records : List NodeRecord) → filter (is_up_to up_to) (filter (is_after above) records) ≡ filter (is_between above up_to) records
filter_both above up_to [] = refl
filter_both above up_to (each ∷ records) = by (nat_lt above each.rev) refl (nat_le each.rev up_to) refl (filter_both above up_to records)
  where
    by : (late : Bool) → nat_lt above each.rev ≡ late → (within : Bool) → nat_le each.rev up_to ≡ within
        → filter (is_up_to up_to) (filter (is_after above) records) ≡ filter (is_between above up_to) records
        → filter (is_up_to up_to) (filter (is_after above) (each ∷ records)) ≡ filter (is_between above up_to) (each ∷ records)
    by true late true within rest = rw (late, within) (ap (λ more. each ∷ more) rest)
    by true late false within rest = rw (late, within) rest
    by false late within is rest = rw late rest

up_to-all : (above up_to : ℕ) → above ≤ up_to → (records : List NodeRecord) → All (λ each. is_up_to up_to each ≡ true) (filter (is_up_to above) records)
up_to-all above up_to ordered [] = All-nil (λ each. is_up_to up_to each ≡ true)
up_to-all above up_to ordered (each ∷ records) = by (nat_le each.rev above) refl (up_to-all above up_to ordered records)
  where
    by : (low : Bool) → nat_le each.rev above ≡ low → All (λ other. is_up_to up_to other ≡ true) (filter (is_up_to above) records)
        → All (λ other. is_up_to up_to other ≡ true) (filter (is_up_to above) (each ∷ records))
    by true low rest =
        let here : is_up_to up_to each ≡ true = le-leb each.rev up_to (omega (arith, leb-true each.rev above low, ordered)) in
        rw low (All-cons (λ other. is_up_to up_to other ≡ true) each (filter (is_up_to above) records) here rest)
    by false low rest = rw low rest

-- those up to a revision, and those after it up to a later one
copies_up_to-between : (above up_to : ℕ) (records : List NodeRecord) → AreRising records → above ≤ up_to → copies_up_to up_to records ≡ copies_up_to above records ++ copies_between above up_to records
copies_up_to-between above up_to records rising ordered =
    let first = filter (is_up_to above) records in
    let more = filter (is_after above) records in
    let within : All (λ each. is_up_to up_to each ≡ true) first = up_to-all above up_to ordered records in
    ap copies_of
    (ap (filter (is_up_to up_to)) (up_to-first above records rising)
    ∙ filter-append (is_up_to up_to) first more
    ∙ ap₂ (λ one rest. one ++ rest) (filter_all (is_up_to up_to) first within) (filter_both above up_to records))
    ∙ filter_map-append copy_of first (filter (is_between above up_to) records)

none_between : (above up_to : ℕ) → up_to ≤ above → (records : List NodeRecord) → All (λ each. is_between above up_to each ≡ false) records
none_between above up_to past records k d within = by (nat_lt above (get_or records k d).rev) refl
  where
    by : (late : Bool) → nat_lt above (get_or records k d).rev ≡ late → is_between above up_to (get_or records k d) ≡ false
    by true late = rw (late, lt-leb (get_or records k d).rev up_to (omega (arith, ltb-true above (get_or records k d).rev late, past))) refl
    by false late = rw late refl

-- the copies up to one revision, without those up to another one
pub drop-copies_up_to : {records : List NodeRecord} {copies : List Copied} → AreCopies records copies → AreRising records → (above up_to first end : ℕ)
    → first ≡ length (copies_up_to above records) → end ≡ length (copies_up_to up_to records)
    → map copy_view (drop (min first end) (take end copies)) ≡ copies_between above up_to records
drop-copies_up_to {records = records} {copies = copies} are rising above up_to first end first_is end_is =
    let views : map copy_view copies ≡ copies_of records = ap (map copy_view) are.exact ∙ copies_of-copied_from 0 records in
    let upper = copies_up_to up_to records in
    let rest = copies_of (filter (is_after up_to) records) in
    let all : map copy_view copies ≡ upper ++ rest = views ∙ ap copies_of (up_to-first up_to records rising) ∙ filter_map-append copy_of (filter (is_up_to up_to) records) (filter (is_after up_to) records) in
    let taken : map copy_view (drop (min first end) (take end copies)) ≡ drop (min first end) upper =
    sym (drop-map copy_view (min first end) (take end copies))
    ∙ ap (drop (min first end)) (sym (take-map copy_view end copies) ∙ (λ i. take (end_is i) (all i)) ∙ take-append_seam upper rest) in
    elim (cases_lt up_to above) [
      | inl past ↦
          let ordered = copies_up_to-between up_to above records rising (omega arith) in
          let last : length upper ≤ min first end =
          omega (arith, ap length ordered, length-append upper (copies_between up_to above records), first_is, end_is) in
          taken ∙ drop_of_length-le upper last ∙ sym (ap copies_of (filter_none (is_between above up_to) records (none_between above up_to (omega arith) records)))
      | inr within ↦
          let split = copies_up_to-between above up_to records rising within in
          let low = copies_up_to above records in
          let middle = copies_between above up_to records in
          let count : min first end ≡ length low = omega (arith, first_is, end_is, ap length split, length-append low middle) in
          taken ∙ (λ i. drop (count i) (split i)) ∙ drop-append_seam low middle
    ]

-- the copies of some of the records are no more than those of all
pub few-copies_up_to : {records : List NodeRecord} {copies : List Copied} → AreCopies records copies → AreRising records → (rev : ℕ) → length (copies_up_to rev records) ≤ length copies
few-copies_up_to {records = records} {copies = copies} are rising rev =
    let views : map copy_view copies ≡ copies_of records = ap (map copy_view) are.exact ∙ copies_of-copied_from 0 records in
    omega (
      arith,
      length-map copies copy_view,
      ap length views,
      ap (λ some. length (copies_of some)) (up_to-first rev records rising),
      ap length (filter_map-append copy_of (filter (is_up_to rev) records) (filter (is_after rev) records)),
      length-append (copies_up_to rev records) (copies_of (filter (is_after rev) records)),
    )

-- the copies of a range are those of its parts
pub copies_between-append : (above mid up_to : ℕ) (records : List NodeRecord) → AreRising records → above ≤ mid → mid ≤ up_to
    → copies_between above up_to records ≡ copies_between above mid records ++ copies_between mid up_to records
copies_between-append above mid up_to records rising low high =
    let first = copies_up_to above records in
    let second = copies_between above mid records in
    let third = copies_between mid up_to records in
    append_cancel_left first (copies_between above up_to records) (second ++ third)
    (sym (copies_up_to-between above up_to records rising (omega (arith, low, high))) ∙ copies_up_to-between mid up_to records rising high
    ∙ ap (λ front. front ++ third) (copies_up_to-between above mid records rising low)
    ∙ append_assoc first second third)
