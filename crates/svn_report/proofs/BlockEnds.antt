-- The ends of blocks, and the borders of groups of neighbouring blocks, rise from the first one to the last one.
use Rattle.svn_report.proofs.Common.{◌≡◌, ℕ, ◌+◌, ◌-◌, ◌*◌, ◌<◌, ◌≤◌, min, sum, List, length, map, get_or, sym, ap, ap₂, subst, ◌∙◌, ◌⊎◌, inl, inr, [], ◌∷◌, ◌++◌, All, arith, range_with_len, get_or-map, get_or_default, length-map, length_push, map_push, sum_by-take-le, AreBorders, AreBlockEnds, AreGroupBorders, IsGroupEnd, LeavesBlocks, block_length, distance, end_of_blocks, last_border}
use Rattle.std.specs.Int.{abs_diff}
use Rattle.std.specs.List.Sorted.{IsNonDecreasing}
use Rattle.std.proofs.Math.ListN.{get_or-append}
use Rattle.std.proofs.Math.Nat.{eq-or-lt_of_le, mul-le-mul_left}
use Rattle.std.proofs.Math.Seq.{get_or-append_seam}
use Rattle.std.proofs.lemmas.Bool.{cases_lt}
use Rattle.std.proofs.lemmas.List.FromFn.{get_or-map-range_with_len, map-range_with_len_more, sum_by-map-range_with_len_more, take-map-range_with_len}
use Rattle.std.proofs.lemmas.List.Sorted.{IsNonDecreasingBy-from_all_adjacent}

-- more blocks end no earlier
end_of_blocks-le : (cuts : List ℕ) (last i j : ℕ) → i ≤ j → end_of_blocks cuts last i ≤ end_of_blocks cuts last j
end_of_blocks-le cuts last i j h =
    let lengths : ℕ → ℕ = block_length cuts last in
    let short = sum_by-take-le (λ (x : ℕ). x) (map lengths (range_with_len 0 j)) i in
    let same = ap sum (take-map-range_with_len lengths 0 j i h) in
    omega (arith, short, same)

-- one more block
end_of_blocks-more : (cuts : List ℕ) (last blocks : ℕ) → end_of_blocks cuts last (blocks + 1) ≡ min last (end_of_blocks cuts last blocks + block_length cuts last blocks)
end_of_blocks-more cuts last blocks =
    let more = sum_by-map-range_with_len_more (λ (x : ℕ). x) (block_length cuts last) 0 blocks blocks (omega arith) in
    omega (arith, more)

-- each block takes a revision, where there are some
block_length-some : (cuts : List ℕ) (all block : ℕ) → All (λ length. 0 < length) cuts → 0 < all → 0 < block_length cuts all block
block_length-some [] all block some there = there
block_length-some (cut ∷ cuts) all block some there = some (min block (length (cut ∷ cuts) - 1)) all (omega arith)

-- a place of those so far is the last one or before it
last-or-below : (n count : ℕ) → n < count → (n ≡ count - 1) ⊎ (n + 1 < count)
last-or-below n count h =
    let up : n + 1 ≤ count = omega arith in
    elim (eq-or-lt_of_le up) [ inl same ↦ inl (omega arith) | inr less ↦ inr less ]

-- the ends so far, the last of which is `end`
pub record AreEndsUpTo (cuts : List ℕ) (last end : ℕ) (ends : List ℕ) : Type 0 where
  pub some : 0 < length ends
  pub each : ends ≡ map (end_of_blocks cuts last) (range_with_len 0 (length ends))
  pub at : end ≡ end_of_blocks cuts last (length ends - 1)
  pub fewest : (blocks : ℕ) → blocks + 1 < length ends → end_of_blocks cuts last blocks < last
  pub few : length ends ≤ end + 1

pub AreEndsUpTo-more : (cuts : List ℕ) (last end next : ℕ) (ends : List ℕ) → All (λ length. 0 < length) cuts → end < last → next ≡ end + min (block_length cuts last (length ends - 1)) (last - end)
    → AreEndsUpTo cuts last end ends → AreEndsUpTo cuts last next (ends ++ next ∷ [])
AreEndsUpTo-more cuts last end next ends lengths before step are =
    let blocks = length ends - 1 in
    let one_more : blocks + 1 ≡ length ends = omega (arith, are.some) in
    let long = block_length-some cuts last blocks lengths (omega arith) in
    let more = end_of_blocks-more cuts last blocks in
    let at : next ≡ end_of_blocks cuts last (length ends) =
    subst (λ n. next ≡ end_of_blocks cuts last n) one_more (omega (arith, more, step, are.at)) in
    let len = length_push ends next in
    let place : length ends ≡ length (ends ++ next ∷ []) - 1 = omega arith in
    record {
      some = omega arith;
      each = ap₂ (λ l x. l ++ x ∷ []) are.each at
          ∙ sym (map-range_with_len_more (end_of_blocks cuts last) 0 (length ends) (length ends) (omega arith))
          ∙ ap (λ n. map (end_of_blocks cuts last) (range_with_len 0 n)) (sym len);
      at = at ∙ ap (end_of_blocks cuts last) place;
      fewest = λ n h. elim (last-or-below n (length ends) (omega (arith, len))) [
        | inl same ↦ omega (arith, ap (end_of_blocks cuts last) same, are.at)
        | inr less ↦ are.fewest n less
      ];
      few = omega (arith, are.few, long);
    }

-- the ends rise from 0 to the last revision
pub AreBorders-ends : (cuts : List ℕ) (last : ℕ) (ends : List ℕ) → AreBlockEnds cuts last ends → AreBorders 0 last ends
AreBorders-ends cuts last ends are =
    let end_at : (i : ℕ) → i < length ends → get_or ends i 0 ≡ end_of_blocks cuts last i = λ i below.
    ap (λ l. get_or l i 0) are.each
    ∙ get_or-map-range_with_len (end_of_blocks cuts last) 0 (length ends) i i 0 below (omega arith) in
    let none : end_of_blocks cuts last 0 ≡ 0 = omega arith in
    record {
      some = are.some;
      starts = end_at 0 are.some ∙ none;
      rise = λ i j h below. omega (arith, end_at i (omega arith), end_at j below, end_of_blocks-le cuts last i j h);
      ends = end_at (length ends - 1) (omega (arith, are.some)) ∙ are.all;
    }

-- the place is the nearest of those that were looked at
pub record IsGroupEndUpTo (most : ℕ) (borders : List ℕ) (group start place : ℕ) : Type 0 where
  pub leaves : LeavesBlocks most borders group start place
  pub nearest : (other : ℕ) → start < other → other ≤ place → distance most borders group place ≤ distance most borders group other

-- beyond a number that is further from an aim than a smaller one, no number is nearer
abs_diff-rises : (aim x y z : ℕ) → x ≤ y → y ≤ z → abs_diff x aim < abs_diff y aim → abs_diff x aim ≤ abs_diff z aim
abs_diff-rises aim x y z low high further = omega arith

-- where the next border is further, the group ends
pub IsGroupEnd-further : (most : ℕ) (borders : List ℕ) (group start place : ℕ) → AreBorders 0 (last_border borders) borders → distance most borders group place < distance most borders group (place + 1)
    → IsGroupEndUpTo most borders group start place → IsGroupEnd most borders group start place
IsGroupEnd-further most borders group start place rise further is = record {
  leaves = is.leaves;
  nearest = λ other leaves. elim (cases_lt place other) [
    | inl above ↦
        let inside : other < length borders = omega (arith, leaves.later) in
        let low = mul-le-mul_left most (rise.rise place (place + 1) (omega arith) (omega arith)) in
        let high = mul-le-mul_left most (rise.rise (place + 1) other (omega arith) inside) in
        abs_diff-rises (group * last_border borders) (most * get_or borders place 0) (most * get_or borders (place + 1) 0) (most * get_or borders other 0) low high further
    | inr up ↦ is.nearest other leaves.own up
  ];
}

-- each of these groups ends at the place of its number
abbrev pub EndAt : ℕ → List ℕ → ℕ → List ℕ → Type 0
EndAt most borders groups places =
    (k : ℕ) → 0 < k → k < groups → IsGroupEnd most borders k (get_or places (k - 1) 0) (get_or places k 0)

-- the borders of the groups before `group`, the last of which ends at `end`
pub record AreGroupBordersUpTo (most : ℕ) (borders : List ℕ) (group end : ℕ) (kept : List ℕ) : Type 0 where
  pub places : List ℕ
  pub len : length places ≡ group
  pub first : get_or places 0 0 ≡ 0
  pub each : EndAt most borders group places
  pub last : get_or places (group - 1) 0 ≡ end
  pub room : end + 1 + (most - group) < length borders
  pub at : kept ≡ map (λ n. get_or borders n 0) places

module _ (most : ℕ) (borders : List ℕ) (group end next : ℕ) (kept : List ℕ) (are : AreGroupBordersUpTo most borders group end kept) where
  place_before : (k : ℕ) → k < group → get_or are.places k 0 ≡ get_or (are.places ++ next ∷ []) k 0
  place_before k below = sym (get_or-append are.places (next ∷ []) 0 k (omega (arith, are.len)))

  place_at : get_or (are.places ++ next ∷ []) group 0 ≡ next
  place_at =
      subst (λ i. get_or (are.places ++ next ∷ []) i 0 ≡ next) are.len (get_or-append_seam are.places next [] 0)

  EndAt-before : EndAt most borders group (are.places ++ next ∷ [])
  EndAt-before k above below =
      subst (λ n. IsGroupEnd most borders k (get_or (are.places ++ next ∷ []) (k - 1) 0) n) (place_before k below)
      (subst (λ n. IsGroupEnd most borders k n (get_or are.places k 0)) (place_before (k - 1) (omega arith)) (are.each k above below))

  kept-more : kept ++ get_or borders next 0 ∷ [] ≡ map (λ n. get_or borders n 0) (are.places ++ next ∷ [])
  kept-more =
      ap (λ l. l ++ get_or borders next 0 ∷ []) are.at ∙ sym (map_push (λ n. get_or borders n 0) are.places next)

  -- one group more
  pub AreGroupBordersUpTo-more : 0 < group → group < most → IsGroupEnd most borders group end next → AreGroupBordersUpTo most borders (group + 1) next (kept ++ get_or borders next 0 ∷ [])
  AreGroupBordersUpTo-more some below is =
      let start = sym are.last ∙ place_before (group - 1) (omega arith) in
      record {
        places = are.places ++ next ∷ [];
        len = omega (arith, length_push are.places next, are.len);
        first = sym (place_before 0 some) ∙ are.first;
        each = λ k above h. elim (last-or-below k (group + 1) h) [
          | inl same ↦
              let here : group ≡ k = omega arith in
              subst (λ n. IsGroupEnd most borders n (get_or (are.places ++ next ∷ []) (n - 1) 0) (get_or (are.places ++ next ∷ []) n 0)) here
              (subst (λ n. IsGroupEnd most borders group (get_or (are.places ++ next ∷ []) (group - 1) 0) n) (sym place_at)
              (subst (λ n. IsGroupEnd most borders group n next) start is))
          | inr less ↦ EndAt-before k above (omega arith)
        ];
        last = subst (λ n. get_or (are.places ++ next ∷ []) n 0 ≡ next) (omega arith) place_at;
        room = omega (arith, is.leaves.later);
        at = kept-more;
      }

  -- the last group ends with the blocks
  pub AreGroupBorders-all : 0 < group → group ≡ most → next ≡ length borders - 1 → AreGroupBorders most borders (kept ++ get_or borders next 0 ∷ [])
  AreGroupBorders-all some all at_end = record {
    places = are.places ++ next ∷ [];
    ends = record {
      len = omega (arith, length_push are.places next, are.len, all);
      first = sym (place_before 0 some) ∙ are.first;
      each = λ k above below. EndAt-before k above (omega arith);
      last = ap (λ n. get_or (are.places ++ next ∷ []) n 0) (sym all) ∙ place_at ∙ at_end;
    };
    at = kept-more;
  }

module _ (most : ℕ) (borders kept : List ℕ) (rise : AreBorders 0 (last_border borders) borders) (are : AreGroupBorders most borders kept) where
  -- there is a border at each of the places
  place-inside : (k : ℕ) → k ≤ most → get_or are.places k 0 < length borders
  place-inside k up = elim (eq-or-lt_of_le up) [
    | inl same ↦ omega (arith, ap (λ n. get_or are.places n 0) same, are.ends.last, rise.some)
    | inr below ↦ elim (cases_lt 0 k) [
      | inl above ↦ omega (arith, (are.ends.each k above below).leaves.later)
      | inr none ↦
          let first : k ≡ 0 = omega arith in
          omega (arith, ap (λ n. get_or are.places n 0) first, are.ends.first, rise.some)
    ]
  ]

  place-le : (k : ℕ) → k < most → get_or are.places k 0 ≤ get_or are.places (k + 1) 0
  place-le k below = elim (cases_lt (k + 1) most) [
    | inl less ↦
        let same : k + 1 - 1 ≡ k = omega arith in
        omega (arith, ap (λ n. get_or are.places n 0) same, (are.ends.each (k + 1) (omega arith) less).leaves.own)
    | inr up ↦
        let last : k + 1 ≡ most = omega arith in
        omega (arith, ap (λ n. get_or are.places n 0) last, are.ends.last, place-inside k (omega arith))
  ]

  IsNonDecreasing-places : IsNonDecreasing are.places
  IsNonDecreasing-places = IsNonDecreasingBy-from_all_adjacent (λ x. x) are.places
      (λ k d below.
      let here = get_or_default are.places k d 0 (omega arith) in
      let next = get_or_default are.places (k + 1) d 0 below in
      omega (arith, here, next, place-le k (omega (arith, are.ends.len))))

  length-kept : length kept ≡ most + 1
  length-kept = ap length are.at ∙ length-map are.places (λ n. get_or borders n 0) ∙ are.ends.len

  kept_at : (i : ℕ) → i ≤ most → get_or kept i 0 ≡ get_or borders (get_or are.places i 0) 0
  kept_at i up =
      ap (λ l. get_or l i 0) are.at
      ∙ get_or-map (λ n. get_or borders n 0) are.places i 0 0 (omega (arith, are.ends.len))

  -- the borders of groups rise from the first one to the last one
  pub AreBorders-groups : AreBorders 0 (last_border borders) kept
  AreBorders-groups =
      let last : length kept - 1 ≡ most = omega (arith, length-kept) in
      record {
        some = omega (arith, length-kept);
        starts = kept_at 0 (omega arith) ∙ ap (λ n. get_or borders n 0) are.ends.first ∙ rise.starts;
        rise = λ i j h below.
            let within : j ≤ most = omega (arith, length-kept) in
            let up = IsNonDecreasing-places i j 0 h (omega (arith, are.ends.len)) in
            let rises = rise.rise (get_or are.places i 0) (get_or are.places j 0) up (place-inside j within) in
            omega (arith, kept_at i (omega arith), kept_at j within, rises);
        ends = ap (λ n. get_or kept n 0) last
            ∙ kept_at most (omega arith)
            ∙ ap (λ n. get_or borders n 0) are.ends.last;
      }
