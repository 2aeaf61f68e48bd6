-- The numbers of a node, in rising order.
use Rattle.path_index.proofs.Common.{◌≡◌, leb, ℕ, zero, suc, pred, ◌+◌, ◌-◌, ◌<◌, ◌≤◌, max, Bool, true, false, ◌⊎◌, List, [], ◌∷◌, ◌++◌, Contains, map, filter, slice_get, length, get_or, take, Option, None, Some, inl, inr, refl, sym, ap, subst, ◌∙◌, append_assoc, append-nil, arith, SmallVec, IsPartitionPoint, IsNonDecreasing, cases_lt, false_from_ne_true, eqb-true, leb-true, leb-false, All-contains, Contains-append_left, Contains-push, Contains-push_cases, length_push, get_or_push, get_or_append_left, length-take-le, get_or-take, get_or_default, get_or_from_slice_get, slice_get-get_or, slice_get_within, has_number, newer_of, numbers_of, HasNumber, IsNewestBelow, IsRising, IsFrontUpTo, down_from, hit_at, Hit}
use Rattle.std.proofs.lemmas.Cmp.{nat_eq_equiv}
use Rattle.std.proofs.lemmas.Map.Views.{list_any-from_Contains, Contains-from_any}
use Rattle.path_index.proofs.DownFrom.{filter_down-none}
use Rattle.path_index.proofs.Rising.{IsNonDecreasingBy-AllPairs}

pub has_number-HasNumber : (lists : List (SmallVec ℕ)) (node number : ℕ) → HasNumber lists node number → has_number lists node number ≡ true
has_number-HasNumber lists node number has = list_any-from_Contains nat_eq_equiv number (numbers_of lists node) has

pub HasNumber-has_number : (lists : List (SmallVec ℕ)) (node number : ℕ) → has_number lists node number ≡ true → HasNumber lists node number
HasNumber-has_number lists node number has = Contains-from_any (λ x y. eqb-true x y) number (numbers_of lists node) has

-- ---- the newest of two

pub IsNewestBelow-newer : (limit : ℕ) (P Q : ℕ → Type 0) (one other : Option ℕ) → IsNewestBelow limit P one → IsNewestBelow limit Q other → IsNewestBelow limit (λ n. P n ⊎ Q n) (newer_of one other)
IsNewestBelow-newer limit P Q None None one other = λ n below either. elim either [ inl p ↦ one n below p | inr q ↦ other n below q ]
IsNewestBelow-newer limit P Q None (Some b) one other = (other.0, inr other.1, λ n past below either. elim either [ inl p ↦ one n below p | inr q ↦ other.2 n past below q ])
IsNewestBelow-newer limit P Q (Some a) None one other = (one.0, inl one.1, λ n past below either. elim either [ inl p ↦ one.2 n past below p | inr q ↦ other n below q ])
IsNewestBelow-newer limit P Q (Some a) (Some b) one other = elim (cases_lt a b) [
  | inl less ↦
      let most : max a b ≡ b = omega arith in
      rw most (other.0, inr other.1, λ n past below either. elim either [ inl p ↦ one.2 n (omega arith) below p | inr q ↦ other.2 n past below q ])
  | inr more ↦
      let most : max a b ≡ a = omega arith in
      rw most (one.0, inl one.1, λ n past below either. elim either [ inl p ↦ one.2 n past below p | inr q ↦ other.2 n (omega arith) below q ])
]

-- of facts that hold of the same numbers
pub IsNewestBelow-same : (limit : ℕ) (P Q : ℕ → Type 0) → ((n : ℕ) → n < limit → P n → Q n) → ((n : ℕ) → n < limit → Q n → P n) → (newest : Option ℕ) → IsNewestBelow limit P newest → IsNewestBelow limit Q newest
IsNewestBelow-same limit P Q to from None is = λ n below q. is n below (from n below q)
IsNewestBelow-same limit P Q to from (Some newest) is = (is.0, to newest is.0 is.1, λ n past below q. is.2 n past below (from n below q))

-- ---- the end of a list in rising order

-- the last is above the others
pub last_above : (front : List ℕ) (last : ℕ) → IsRising (front ++ last ∷ []) → (entry : ℕ) → Contains front entry → entry < last
last_above front last rising entry (k, within, at) =
    rw (get_or_append_left front (last ∷ []) entry k within ∙ at, get_or_push front last entry (length front) refl) at (rising k (length front) entry within (omega (arith, length_push front last)))

pub rising_front : (front : List ℕ) (last : ℕ) → IsRising (front ++ last ∷ []) → IsRising front
rising_front front last rising i j d before within =
    rw (get_or_append_left front (last ∷ []) d i (omega arith), get_or_append_left front (last ∷ []) d j within) at (rising i j d before (omega (arith, length_push front last)))

-- so none is above it
pub le_from_last : (front : List ℕ) (last : ℕ) → IsRising (front ++ last ∷ []) → (entry : ℕ) → Contains (front ++ last ∷ []) entry → entry ≤ last
le_from_last front last rising entry within = elim (Contains-push_cases front last entry within) [
  | inl earlier ↦ let less = last_above front last rising entry earlier in omega (arith, less)
  | inr here ↦ omega (arith, here)
]

-- ---- the numbers up to one

pub IsNonDecreasing-rising : (numbers : List ℕ) → IsRising numbers → IsNonDecreasing numbers
IsNonDecreasing-rising numbers rising = IsNonDecreasingBy-AllPairs (λ x. x) numbers (λ i j d before within. let rises = rising i j d before within in omega (arith, rises))

pub IsFrontUpTo-take : (last count : ℕ) (numbers : List ℕ) → IsRising numbers → count ≤ length numbers → IsPartitionPoint (λ each. leb each last ≡ true) (λ each. leb each last ≡ false) numbers count
    → IsFrontUpTo last numbers (take count numbers)
IsFrontUpTo-take last count numbers rising bound point =
    let long : length (take count numbers) ≡ count = length-take-le count numbers bound in
    let at = λ (k d : ℕ) (within : k < length (take count numbers)). let same : get_or (take count numbers) k d ≡ get_or numbers k d = get_or-take count numbers k d (omega arith) in same in
    record {
      rising = λ i j d before within.
          let less = rising i j d before (omega arith) in
          omega (arith, less, at i d (omega arith), at j d within);
      within = λ k d within. rw (at k d within) (leb-true (get_or numbers k d) last (point.0 k d (omega arith) (omega arith)));
      among = λ number (k, within, here). (k, omega arith, sym (at k number within) ∙ here);
      whole = λ number (k, within, here) low. elim (cases_lt k count) [
        | inl early ↦ let inside : k < length (take count numbers) = omega arith in (k, inside, at k number inside ∙ here)
        | inr late ↦ let high = leb-false (get_or numbers k number) last (point.1 k number late within) in absurd (omega (arith, high, here))
      ];
    }

-- ---- the greatest number below a limit

-- the last of those up to the one before the limit
pub IsNewestBelow-last : (numbers front : List ℕ) (limit : ℕ) → 0 < limit → IsFrontUpTo (limit - 1) numbers front → IsNewestBelow limit (Contains numbers) (slice_get front (length front - 1))
IsNewestBelow-last numbers front limit some up = by (slice_get front (length front - 1)) refl
  where
    by : (o : Option ℕ) → slice_get front (length front - 1) ≡ o → IsNewestBelow limit (Contains numbers) o
    by None none = λ number below has.
        let (k, within, at) = up.whole number has (omega arith) in
        let never : None ≡ Some (get_or front (length front - 1) 0) = sym none ∙ slice_get-get_or front (length front - 1) 0 (omega arith) in
        cc
    by (Some last) is =
        let inside = slice_get_within front (length front - 1) last is in
        let at : get_or front (length front - 1) last ≡ last = get_or_from_slice_get front (length front - 1) last last is in
        let most : last ≤ limit - 1 = subst (λ each. each ≤ limit - 1) at (up.within (length front - 1) last inside) in (
          omega arith,
          up.among last (length front - 1, inside, at),
          λ number past below has.
              let (k, within, here) = up.whole number has (omega arith) in
              let rises = IsNonDecreasing-rising front up.rising k (length front - 1) number (omega arith) inside in
              omega (arith, rises, get_or_default front (length front - 1) number last inside, here, at),
        )

-- ---- numbers downwards

-- the greatest number that a test keeps, and those below it
filter_down-next : (p : ℕ → Bool) (lo next gap top : ℕ) → lo < next → top ≡ next + gap → ((k : ℕ) → next < k → k ≤ top → p k ≡ false) → p next ≡ true
    → filter p (down_from (top - lo) top) ≡ next ∷ filter p (down_from (pred next - lo) (pred next))
filter_down-next p lo next zero top after is none here =
    let same : top ≡ next = omega arith in
    let more : next - lo ≡ suc (pred next - lo) = omega arith in
    ap (λ t. filter p (down_from (t - lo) t)) same ∙ ap (λ n. filter p (down_from n next)) more ∙ rw here refl
filter_down-next p lo next (suc gap) top after is none here =
    let more : top - lo ≡ suc (pred top - lo) = omega arith in
    ap (λ n. filter p (down_from n top)) more
    ∙ (rw (none top (omega arith) (omega arith)) (filter_down-next p lo next gap (pred top) after (omega arith) (λ k past within. none k past (omega arith)) here))

-- ---- the hits of a node

module _ (lists : List (SmallVec ℕ)) (segment node lo hi : ℕ) (old : List Hit) where
  abbrev has : ℕ → Bool
  has number = has_number lists node number

  abbrev numbers_up_to : ℕ → List ℕ
  numbers_up_to top = filter has (down_from (top - lo) top)

  -- the hits so far and those of the numbers up to `top` are those of all numbers; the rest are the numbers up to there
  pub record IsPushed (rest : List ℕ) (hits : List Hit) : Type 0 where
    pub top : ℕ
    pub rising : IsRising rest
    pub within : (number : ℕ) → Contains rest number → number ≤ top
    pub among : (number : ℕ) → Contains rest number → HasNumber lists node number
    pub whole : (number : ℕ) → number ≤ top → has number ≡ true → Contains rest number
    pub found : hits ++ map (hit_at segment) (numbers_up_to top) ≡ old ++ map (hit_at segment) (numbers_up_to hi)

  -- at first
  pub IsPushed-start : (rest : List ℕ) → IsFrontUpTo hi (numbers_of lists node) rest → IsPushed rest old
  IsPushed-start rest up = record {
    top = hi;
    rising = up.rising;
    within = λ number among. All-contains (λ each. each ≤ hi) rest number up.within among;
    among = up.among;
    whole = λ number below has. up.whole number (HasNumber-has_number lists node number has) below;
    found = refl;
  }

  -- where no number is left after `lo`, all are found
  pub hits-IsPushed : {rest : List ℕ} {hits : List Hit} → IsPushed rest hits → ((number : ℕ) → Contains rest number → number ≤ lo) → hits ≡ old ++ map (hit_at segment) (numbers_up_to hi)
  hits-IsPushed {hits = hits} so_far none =
      let ended : numbers_up_to so_far.top ≡ [] = filter_down-none has (so_far.top - lo) so_far.top (omega arith)
      (λ number to from. false_from_ne_true (has number) (λ is. let low = none number (so_far.whole number to is) in omega (arith, low))) in
      sym (append-nil hits) ∙ ap (λ more. hits ++ map (hit_at segment) more) (sym ended) ∙ so_far.found

  -- the last number is the next hit
  pub IsPushed_push : (before : List ℕ) (last : ℕ) {hits : List Hit} → IsPushed (before ++ last ∷ []) hits → lo < last → IsPushed before (hits ++ hit_at segment last ∷ [])
  IsPushed_push before last {hits = hits} so_far after =
      let last_in = Contains-push before last in
      let up = so_far.within last last_in in
      record {
        top = pred last;
        rising = rising_front before last so_far.rising;
        within = λ number among. let less = last_above before last so_far.rising number among in omega (arith, less);
        among = λ number among. so_far.among number (Contains-append_left before (last ∷ []) number among);
        whole = λ k below has. elim (Contains-push_cases before last k (so_far.whole k (omega (arith, up)) has)) [
          | inl earlier ↦ earlier
          | inr here ↦ absurd (omega (arith, here))
        ];
        found =
            append_assoc hits (hit_at segment last ∷ []) (map (hit_at segment) (numbers_up_to (pred last)))
            ∙ ap (λ revs. hits ++ map (hit_at segment) revs)
            (sym (filter_down-next has lo last (so_far.top - last) so_far.top after (omega (arith, up))
            (λ k past within. false_from_ne_true (has k) (λ is. let low = le_from_last before last so_far.rising k (so_far.whole k within is) in omega (arith, low)))
            (has_number-HasNumber lists node last (so_far.among last last_in))))
            ∙ so_far.found;
      }
