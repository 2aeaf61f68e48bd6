-- Lists of numbers of nodes, as numbers are inserted.
use Rattle.path_index.proofs.Common.{◌≡◌, ◌≢◌, ℕ, zero, suc, map, ◌+◌, ◌-◌, ◌<◌, ◌≤◌, ◌⊎◌, List, [], ◌∷◌, ◌++◌, ltb, true, false, set, length, get_or, slice_get, Some, inl, inr, refl, sym, ap, subst, ◌∙◌, arith, SmallVec, insert, IsPartitionPoint, cases_eq, cases_lt, ltb-false, ltb-true, get_or-set_same, get_or-set_other, length-set, Contains-append_left, Contains-push, Contains-push_cases, same_Some, slice_get-get_or, slice_get_past, numbers_in, numbers_of, AddsNumbers, AreAllRising, ArePair, HaveSameNumbers, IsMoved, IsFirstNotBelow, IsRising, IsShifted, IsWith}
use Rattle.std.proofs.lemmas.List.Edits.{length-insert, get_or-insert_at, get_or-insert_below, get_or-insert_above}
use Rattle.path_index.proofs.NumbersOfNodes.{IsNonDecreasing-rising}

-- ---- the numbers of one node

pub numbers_of-within : (lists : List (SmallVec ℕ)) (node : ℕ) (d : SmallVec ℕ) → node < length lists → numbers_of lists node ≡ (get_or lists node d).items
numbers_of-within lists node d within = ap numbers_in (slice_get-get_or lists node d within)

pub numbers_of-past : (lists : List (SmallVec ℕ)) (node : ℕ) → length lists ≤ node → numbers_of lists node ≡ []
numbers_of-past lists node past = ap numbers_in (slice_get_past lists node past)

pub numbers_of-set : (lists : List (SmallVec ℕ)) (node : ℕ) (list : SmallVec ℕ) → node < length lists → numbers_of (set lists node list) node ≡ list.items
numbers_of-set lists node list within =
    numbers_of-within (set lists node list) node list (omega (arith, length-set lists node list)) ∙ ap (λ (v : SmallVec ℕ). v.items) (get_or-set_same lists node list list within)

pub numbers_of-set_other : (lists : List (SmallVec ℕ)) (node : ℕ) (list : SmallVec ℕ) (other : ℕ) → other ≢ node → numbers_of (set lists node list) other ≡ numbers_of lists other
numbers_of-set_other lists node list other differs = elim (cases_lt other (length lists)) [
  | inl within ↦
      numbers_of-within (set lists node list) other list (omega (arith, length-set lists node list))
      ∙ ap (λ (v : SmallVec ℕ). v.items) (get_or-set_other lists node other list list differs) ∙ sym (numbers_of-within lists other list within)
  | inr past ↦ numbers_of-past (set lists node list) other (omega (arith, length-set lists node list)) ∙ sym (numbers_of-past lists other past)
]

pub AreAllRising-same : (old new : List (SmallVec ℕ)) → HaveSameNumbers old new → AreAllRising old → AreAllRising new
AreAllRising-same old new same rising node = subst IsRising (sym (same node)) (rising node)

-- ---- a number more

pub IsFirstNotBelow-from_point : (number : ℕ) (numbers : List ℕ) (index : ℕ) → index ≤ length numbers → IsPartitionPoint (λ each. ltb each number ≡ true) (λ each. ltb each number ≡ false) numbers index → IsFirstNotBelow number numbers index
IsFirstNotBelow-from_point number numbers index bound point = record {
  bound = bound;
  before = λ k d below. ltb-true (get_or numbers k d) number (point.0 k d (omega arith) below);
  after = λ k d from within. ltb-false (get_or numbers k d) number (point.1 k d from within);
}

module _ (numbers : List ℕ) (number index : ℕ) (at : IsFirstNotBelow number numbers index) where
  abbrev after : List ℕ
  after = insert numbers index number

  long : length after ≡ length numbers + 1
  long = length-insert numbers index number at.bound

  at_index : (k d : ℕ) → k ≡ index → get_or after k d ≡ number
  at_index k d is = ap (λ n. get_or after n d) is ∙ get_or-insert_at numbers index number d at.bound

  at_below : (k d : ℕ) → k < index → get_or after k d ≡ get_or numbers k d
  at_below k d below = get_or-insert_below numbers index number d k below at.bound

  at_above : (k d : ℕ) → index < k → get_or after k d ≡ get_or numbers (k - 1) d
  at_above k d above =
      let is : k ≡ k - 1 + 1 = omega arith in
      ap (λ n. get_or after n d) is ∙ get_or-insert_above numbers index number d (k - 1) (omega arith) at.bound

  module _ (rising : IsRising numbers) (new : (d : ℕ) → index < length numbers → get_or numbers index d ≢ number) where
    above_index : (k d : ℕ) → index ≤ k → k < length numbers → number < get_or numbers k d
    above_index k d from within =
        let least = at.after index d (omega arith) (omega arith) in
        let rises = IsNonDecreasing-rising numbers rising index k d from within in
        let other = new d (omega arith) in omega (arith, least, rises, other)

    pub IsRising-insert : IsRising after
    IsRising-insert i j d before within = elim (cases_lt j index) [
      | inl below ↦ let less = rising i j d before (omega (arith, at.bound)) in omega (arith, less, at_below i d (omega arith), at_below j d below)
      | inr from ↦ elim (cases_lt index j) [
        | inr to ↦ let less = at.before i d (omega arith) in omega (arith, less, at_below i d (omega arith), at_index j d (omega arith))
        | inl past ↦ elim (cases_lt i index) [
          | inl low ↦ let less = rising i (j - 1) d (omega arith) (omega (arith, long)) in omega (arith, less, at_below i d low, at_above j d past)
          | inr high ↦ elim (cases_lt index i) [
            | inl higher ↦ let less = rising (i - 1) (j - 1) d (omega arith) (omega (arith, long)) in omega (arith, less, at_above i d higher, at_above j d past)
            | inr here ↦ let less = above_index (j - 1) d (omega arith) (omega (arith, long)) in omega (arith, less, at_index i d (omega arith), at_above j d past)
          ]
        ]
      ]
    ]

  pub IsWith-insert : IsWith number numbers after
  IsWith-insert = record {
    kept = λ each (k, within, is). elim (cases_lt k index) [
      | inl below ↦ (k, omega (arith, long), at_below k each below ∙ is)
      | inr from ↦ (k + 1, omega (arith, long), get_or-insert_above numbers index number each k from at.bound ∙ is)
    ];
    sound = λ each (k, within, is). elim (cases_lt k index) [
      | inl below ↦ inl (k, omega (arith, at.bound), sym (at_below k each below) ∙ is)
      | inr from ↦ elim (cases_lt index k) [
        | inl past ↦ inl (k - 1, omega (arith, long), sym (at_above k each past) ∙ is)
        | inr here ↦ inr (sym is ∙ at_index k each (omega arith))
      ]
    ];
    here = (index, omega (arith, long, at.bound), at_index index number refl);
  }

-- ---- the numbers that come

-- where nothing holds, none
AddsNumbers-none : {P : ℕ → ℕ → Type 0} {lists : List (SmallVec ℕ)} → ((node number : ℕ) → P node number → ⊥) → AddsNumbers P lists lists
AddsNumbers-none never = record { kept = λ node number has. has; sound = λ node number has. inl has; complete = λ node number so. absurd (never node number so) }

-- first some, then others
AddsNumbers-then : {P Q R : ℕ → ℕ → Type 0} {old middle new : List (SmallVec ℕ)} → AddsNumbers P old middle → AddsNumbers Q middle new → ((node number : ℕ) → P node number → R node number)
    → ((node number : ℕ) → Q node number → R node number) → ((node number : ℕ) → R node number → P node number ⊎ Q node number) → AddsNumbers R old new
AddsNumbers-then one other first second cases = record {
  kept = λ node number has. other.kept node number (one.kept node number has);
  sound = λ node number has. elim (other.sound node number has) [
    | inl middle ↦ elim (one.sound node number middle) [ inl old ↦ inl old | inr p ↦ inr (first node number p) ]
    | inr q ↦ inr (second node number q)
  ];
  complete = λ node number r. elim (cases node number r) [
    | inl p ↦ other.kept node number (one.complete node number p)
    | inr q ↦ other.complete node number q
  ];
}

-- after the lists were copied
pub AddsNumbers-same : {P : ℕ → ℕ → Type 0} {old middle new : List (SmallVec ℕ)} → HaveSameNumbers old middle → AddsNumbers P middle new → AddsNumbers P old new
AddsNumbers-same same adds = record {
  kept = λ node number has. adds.kept node number (rw (same node) has);
  sound = λ node number has. elim (adds.sound node number has) [ inl before ↦ inl (rw (same node) at before) | inr p ↦ inr p ];
  complete = adds.complete;
}

-- one number
pub AddsNumbers-set : (lists : List (SmallVec ℕ)) (node number : ℕ) (list : SmallVec ℕ) → node < length lists → IsWith number (numbers_of lists node) list.items → AddsNumbers (ArePair node number) lists (set lists node list)
AddsNumbers-set lists node number list within inserted =
    let here = numbers_of-set lists node list within in
    record {
      kept = λ other each has. elim (cases_eq other node) [
        | inl is ↦ rw (is, here) (inserted.kept each (rw is at has))
        | inr differs ↦ rw (numbers_of-set_other lists node list other differs) has
      ];
      sound = λ other each has. elim (cases_eq other node) [
        | inl is ↦ elim (inserted.sound each (rw (is, here) at has)) [ inl before ↦ inl (rw is before) | inr new ↦ inr (is, new) ]
        | inr differs ↦ inl (rw (numbers_of-set_other lists node list other differs) at has)
      ];
      complete = λ other each (is, new). rw (is, new, here) inserted.here;
    }

pub AddsNumbers-none_shifted : {old new : List (SmallVec ℕ)} {shift node : ℕ} → HaveSameNumbers old new → AddsNumbers (IsShifted [] shift node) old new
AddsNumbers-none_shifted same = AddsNumbers-same same (AddsNumbers-none (λ n k so. let below = so.within.1 in omega (arith, below)))

-- ---- copies

abbrev pub items_in : SmallVec ℕ → List ℕ
items_in list = list.items

numbers_of-map : (lists : List (SmallVec ℕ)) (node : ℕ) → numbers_of lists node ≡ get_or (map items_in lists) node []
numbers_of-map [] node = refl
numbers_of-map (list ∷ lists) zero = refl
numbers_of-map (list ∷ lists) (suc node) = numbers_of-map lists node

pub HaveSameNumbers-map : (old new : List (SmallVec ℕ)) → map items_in new ≡ map items_in old → HaveSameNumbers old new
HaveSameNumbers-map old new same node = numbers_of-map new node ∙ ap (λ all. get_or all node []) same ∙ sym (numbers_of-map old node)

-- ---- the numbers of other nodes

pub AddsNumbers-next_shifted : {old middle new : List (SmallVec ℕ)} {done : List ℕ} {shift node : ℕ} (each : ℕ) → AddsNumbers (IsShifted done shift node) old middle → AddsNumbers (ArePair node (each + shift)) middle new
    → AddsNumbers (IsShifted (done ++ each ∷ []) shift node) old new
AddsNumbers-next_shifted {done = done} {shift = shift} each one other =
    AddsNumbers-then one other
    (λ n k so. record { here = so.here; earlier = so.earlier; within = Contains-append_left done (each ∷ []) so.earlier so.within; is = so.is })
    (λ n k (here, is). record { here = here; earlier = each; within = Contains-push done each; is = is })
    (λ n k so. elim (Contains-push_cases done each so.earlier so.within) [
      | inl before ↦ inl (record { here = so.here; earlier = so.earlier; within = before; is = so.is })
      | inr last ↦ inr (so.here, so.is ∙ ap (λ e. e + shift) (sym last))
    ])

pub AddsNumbers-next_node : {old middle new lists : List (SmallVec ℕ)} {nodes : List ℕ} {count shift node : ℕ} → slice_get nodes count ≡ Some node → AddsNumbers (IsMoved lists nodes count shift) old middle
    → AddsNumbers (IsShifted (numbers_of lists count) shift node) middle new → AddsNumbers (IsMoved lists nodes (count + 1) shift) old new
AddsNumbers-next_node {nodes = nodes} {count = count} {node = node} at one other =
    AddsNumbers-then one other
    (λ n k so. record { from = so.from; early = (let early = so.early in omega (arith, early)); mapped = so.mapped; earlier = so.earlier; has = so.has; is = so.is })
    (λ n k so. record { from = count; early = omega arith; mapped = at ∙ ap Some (sym so.here); earlier = so.earlier; has = so.within; is = so.is })
    (λ n k so. elim (cases_lt so.from count) [
      | inl before ↦ inl (record { from = so.from; early = before; mapped = so.mapped; earlier = so.earlier; has = so.has; is = so.is })
      | inr last ↦
          let here : so.from ≡ count = let early = so.early in omega (arith, early, last) in
          inr (record {
            here = same_Some n node (sym so.mapped ∙ ap (slice_get nodes) here ∙ at);
            earlier = so.earlier;
            within = rw here at so.has;
            is = so.is;
          })
    ])
