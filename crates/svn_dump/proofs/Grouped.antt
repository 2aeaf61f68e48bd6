-- Items in groups of given sizes, and what one more item or one more group makes of them.
use Rattle.svn_dump.proofs.Common.{◌≡◌, ℕ, zero, suc, ◌+◌, ◌-◌, ◌<◌, ◌≤◌, List, [], ◌∷◌, ◌++◌, map, length, take, drop, get_or, set, replicate, sum, refl, sym, ap, ap₂, ◌∙◌, append_assoc, append-nil, arith, length-append, length-drop, take_all, take-map, drop-map, take-append-le, drop-append-le, length_push, length-replicate, replicate_more, nil_from_length, get_or_read, sum_by-cons, records_by_revision, revisions_from, RecordOfBytes, with_record}
use Rattle.std.proofs.lemmas.List.{take-append-drop}
use Rattle.std.specs.List.{flat_map}

-- how many items the counts are of
abbrev pub total : List ℕ → ℕ
total [] = 0
total (count ∷ counts) = count + total counts

pub total-sum : (counts : List ℕ) → total counts ≡ sum counts
total-sum [] = refl
total-sum (count ∷ counts) = omega (arith, sum_by-cons (λ (x : ℕ). x) count counts, total-sum counts)

-- one more item in the last group
abbrev pub with_more : List ℕ → List ℕ
with_more [] = []
with_more (count ∷ []) = (count + 1) ∷ []
with_more (count ∷ more ∷ counts) = count ∷ with_more (more ∷ counts)

-- it opens no group
pub length-with_more : (counts : List ℕ) → length (with_more counts) ≡ length counts
length-with_more [] = refl
length-with_more (count ∷ []) = refl
length-with_more (count ∷ more ∷ counts) = ap suc (length-with_more (more ∷ counts))

-- no count is above the total
pub get_or-le-total : (counts : List ℕ) (k : ℕ) → get_or counts k 0 ≤ total counts
get_or-le-total [] k = omega arith
get_or-le-total (count ∷ counts) zero = omega arith
get_or-le-total (count ∷ counts) (suc k) = omega (arith, get_or-le-total counts k)

-- there are as many groups as counts
pub length-records_by_revision : {X : Type 0} (counts : List ℕ) (items : List X) → length (records_by_revision counts items) ≡ length counts
length-records_by_revision [] items = refl
length-records_by_revision (count ∷ counts) items = ap suc (length-records_by_revision counts (drop count items))

-- a map of all items is one of each group's
pub map-records_by_revision : {X Y : Type 0} (f : X → Y) (counts : List ℕ) (items : List X) → map (map f) (records_by_revision counts items) ≡ records_by_revision counts (map f items)
map-records_by_revision f [] items = refl
map-records_by_revision f (count ∷ counts) items =
    ap₂ (λ group groups. group ∷ groups) (sym (take-map f count items)) (map-records_by_revision f counts (drop count items) ∙ ap (records_by_revision counts) (sym (drop-map f count items)))

-- the groups joined are the items, where the counts are as many
pub flat_map-records_by_revision : {X : Type 0} (counts : List ℕ) (items : List X) → total counts ≡ length items → flat_map (λ group. group) (records_by_revision counts items) ≡ items
flat_map-records_by_revision [] items h = sym (nil_from_length items (sym h))
flat_map-records_by_revision (count ∷ counts) items h =
    ap (λ rest. take count items ++ rest) (flat_map-records_by_revision counts (drop count items) (omega (arith, length-drop count items)))
    ∙ take-append-drop count items

-- one more item goes into the last group
pub records_by_revision-with_more : (counts : List ℕ) (items : List RecordOfBytes) (item : RecordOfBytes) → total counts ≡ length items → 0 < length counts → records_by_revision (with_more counts) (items ++ item ∷ []) ≡ with_record (records_by_revision counts items) item
records_by_revision-with_more [] items item h some = absurd (omega arith)
records_by_revision-with_more (count ∷ []) items item h some =
    ap (λ group. group ∷ []) (take_all (count + 1) (items ++ item ∷ []) (omega (arith, length_push items item)) ∙ ap (λ group. group ++ item ∷ []) (sym (take_all count items (omega arith))))
records_by_revision-with_more (count ∷ more ∷ counts) items item h some =
    ap₂ (λ group groups. group ∷ groups) (take-append-le count items (item ∷ []) (omega arith))
    (ap (records_by_revision (with_more (more ∷ counts))) (drop-append-le count items (item ∷ []) (omega arith))
    ∙ records_by_revision-with_more (more ∷ counts) (drop count items) item (omega (arith, length-drop count items)) (omega arith))

-- one more count is one more group, empty
pub records_by_revision-with_group : {X : Type 0} (counts : List ℕ) (items : List X) → records_by_revision (counts ++ 0 ∷ []) items ≡ records_by_revision counts items ++ [] ∷ []
records_by_revision-with_group [] items = refl
records_by_revision-with_group (count ∷ counts) items = ap (λ groups. take count items ∷ groups) (records_by_revision-with_group counts (drop count items))

-- ---- the revision of each item

-- each item has its revision
pub length-revisions_from : (rev : ℕ) (counts : List ℕ) → length (revisions_from rev counts) ≡ total counts
length-revisions_from rev [] = refl
length-revisions_from rev (count ∷ counts) =
    omega (arith, length-append (replicate count rev) (revisions_from (rev + 1) counts), length-replicate count rev, length-revisions_from (rev + 1) counts)

-- one more item is of the last revision
pub revisions_from-with_more : (rev : ℕ) (counts : List ℕ) → 0 < length counts → revisions_from rev (with_more counts) ≡ revisions_from rev counts ++ (rev + (length counts - 1)) ∷ []
revisions_from-with_more rev [] some = absurd (omega arith)
revisions_from-with_more rev (count ∷ []) some =
    append-nil (replicate (count + 1) rev) ∙ sym (replicate_more count rev)
    ∙ ap₂ (λ front n. front ++ n ∷ []) (sym (append-nil (replicate count rev))) (omega arith)
revisions_from-with_more rev (count ∷ more ∷ counts) some =
    ap (λ revs. replicate count rev ++ revs) (revisions_from-with_more (rev + 1) (more ∷ counts) (omega arith))
    ∙ sym (append_assoc (replicate count rev) _ _)
    ∙ ap (λ n. replicate count rev ++ revisions_from (rev + 1) (more ∷ counts) ++ n ∷ []) (omega arith)

-- one more revision is of no item
pub revisions_from-with_group : (rev : ℕ) (counts : List ℕ) → revisions_from rev (counts ++ 0 ∷ []) ≡ revisions_from rev counts
revisions_from-with_group rev [] = refl
revisions_from-with_group rev (count ∷ counts) = ap (λ revs. replicate count rev ++ revs) (revisions_from-with_group (rev + 1) counts)

-- a write to the last count
pub set_last : (counts : List ℕ) → 0 < length counts → set counts (length counts - 1) (get_or counts (length counts - 1) 0 + 1) ≡ with_more counts
set_last [] some = absurd (omega arith)
set_last (count ∷ []) some = refl
set_last (count ∷ more ∷ counts) some =
    let e : length (count ∷ more ∷ counts) - 1 ≡ suc (length (more ∷ counts) - 1) = omega arith in
    ap (λ n. set (count ∷ more ∷ counts) n (get_or (count ∷ more ∷ counts) n 0 + 1)) e ∙ ap (λ rest. count ∷ rest) (set_last (more ∷ counts) (omega arith))

-- the last count was read, and is one more
pub set_last_read : (counts : List ℕ) (revisions count : ℕ) → revisions ≡ length counts → 0 < revisions → count ≡ get_or counts (revisions - 1) count → set counts (revisions - 1) (count + 1) ≡ with_more counts
set_last_read counts revisions count long some read =
    let read_so : count ≡ get_or counts (length counts - 1) 0 =
    get_or_read counts (revisions - 1) count (omega arith) read 0 ∙ ap (λ n. get_or counts (n - 1) 0) long in
    ap₂ (λ n m. set counts (n - 1) (m + 1)) long read_so ∙ set_last counts (omega arith)
