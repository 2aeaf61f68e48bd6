-- Bytes that are joined, and cut again where they were joined.
use Rattle.merge_info.proofs.Common.{◌≡◌, ℕ, ◌<◌, ◌==◌, true, false, List, [], ◌∷◌, ◌++◌, length, get_or, map, All, refl, ap, ◌∙◌, arith, eq-eqb, list_any, before_first, after_first, position_or_len, join_with_byte, slice_split, common_steps, get_or_append_left, length-append, take_at, All-append, All-cons, All-head, All-nil, All-tail, Lacks, all_of}
use Rattle.std.specs.Prelude.{Option, Some}
use Rattle.std.proofs.lemmas.List.Splits.{slice_split_at, slice_split_none}
use Rattle.std.proofs.lemmas.List.Sums.{position_or_len_is}
use Rattle.std.proofs.Math.Seq.{drop-append-add}

-- ---- bytes that lack one

pub Lacks-append : (byte : ℕ) (front back : List ℕ) → Lacks byte front → Lacks byte back → Lacks byte (front ++ back)
Lacks-append byte front back = All-append (λ each. (each == byte) ≡ false) front back

pub Lacks-cons : (byte first : ℕ) (bytes : List ℕ) → (first == byte) ≡ false → Lacks byte bytes
    → Lacks byte (first ∷ bytes)
Lacks-cons byte first bytes = All-cons (λ each. (each == byte) ≡ false) first bytes

pub Lacks-nil : (byte : ℕ) → Lacks byte []
Lacks-nil byte = All-nil (λ each. (each == byte) ≡ false)

pub Lacks-join : (byte joint : ℕ) (parts : List (List ℕ)) → (joint == byte) ≡ false → All (Lacks byte) parts
    → Lacks byte (join_with_byte joint parts)
Lacks-join byte joint [] other all = Lacks-nil byte
Lacks-join byte joint (part ∷ []) other all = All-head (Lacks byte) part [] all
Lacks-join byte joint (part ∷ next ∷ parts) other all =
    let rest = Lacks-join byte joint (next ∷ parts) other (All-tail (Lacks byte) part (next ∷ parts) all) in
    Lacks-append byte part (joint ∷ join_with_byte joint (next ∷ parts)) (All-head (Lacks byte) part (next ∷ parts) all)
    (Lacks-cons byte joint (join_with_byte joint (next ∷ parts)) other rest)

-- ---- bytes that one stands between

module _ (byte : ℕ) (front back : List ℕ) where
  between : (get_or (front ++ byte ∷ back) (length front) 0 == byte) ≡ true
  between = grind (arith, common_steps)

  -- the byte is found
  pub list_any-whole : list_any (λ each. each == byte) (front ++ byte ∷ back) ≡ true
  list_any-whole = grind (arith, common_steps)

  -- and it is the first, if none stands before it
  module _ (none : Lacks byte front) where
    position_or_len-whole : position_or_len (λ each. each == byte) (front ++ byte ∷ back) ≡ length front
    position_or_len-whole =
        position_or_len_is (λ each. each == byte) (front ++ byte ∷ back) (length front) 0
        (omega (arith, length-append front (byte ∷ back)))
        (λ k below. ap (λ each. each == byte) (get_or_append_left front (byte ∷ back) 0 k below) ∙ none k 0 below)
        (λ _. between)

    pub before_first-whole : before_first (λ each. each == byte) (front ++ byte ∷ back) ≡ front
    before_first-whole =
        rw position_or_len-whole (take_at front (byte ∷ back) (length front) refl)

    pub after_first-whole : after_first (λ each. each == byte) (front ++ byte ∷ back) ≡ back
    after_first-whole =
        rw position_or_len-whole (drop-append-add front (byte ∷ back) 1)

-- ---- parts that were joined

-- parts are cut again where they were joined, if none has the byte between them
pub slice_split-join : (byte : ℕ) (part : List ℕ) (parts : List (List ℕ)) → All (Lacks byte) (part ∷ parts)
    → slice_split (λ each. each == byte) (join_with_byte byte (part ∷ parts)) ≡ part ∷ parts
slice_split-join byte part [] none = slice_split_none (λ each. each == byte) part (All-head (Lacks byte) part [] none)
slice_split-join byte part (next ∷ parts) none =
    slice_split_at (λ each. each == byte) part byte (join_with_byte byte (next ∷ parts))
    (All-head (Lacks byte) part (next ∷ parts) none) (eq-eqb byte byte refl)
    ∙ ap (λ rest. part ∷ rest) (slice_split-join byte next parts (All-tail (Lacks byte) part (next ∷ parts) none))

-- parts of which the first has a byte have one when they are joined
pub length-join : (byte : ℕ) (part : List ℕ) (parts : List (List ℕ)) → 0 < length part
    → 0 < length (join_with_byte byte (part ∷ parts))
length-join byte part [] some = some
length-join byte part (next ∷ parts) some =
    omega (arith, length-append part (byte ∷ join_with_byte byte (next ∷ parts)))

-- texts of which each is read as what was printed
pub all_of-map : {A B : Type 0} (read : B → Option A) (print : A → B) (items : List A)
    → All (λ item. read (print item) ≡ Some item) items → all_of (map read (map print items)) ≡ Some items
all_of-map read print [] each = refl
all_of-map read print (item ∷ items) each =
    rw (
      each 0 item (omega arith),
      all_of-map read print items (All-tail (λ each. read (print each) ≡ Some each) item items each),
    ) refl
