-- The places to which a table of nodes leads, and the numbers there.
use Rattle.path_index.proofs.Common.{◌≡◌, ℕ, zero, suc, ◌<◌, ◌++◌, List, [], ◌∷◌, length, set, get_or, slice_get, Option, None, Some, inl, inr, refl, sym, ap, ◌∙◌, arith, SmallVec, unwrap_or, cases_eq, get_or_push, get_or-set_same, get_or-set_other, length_push, same_Some, slice_get-get_or, slice_get_within, slice_get-first, numbers_in, numbers_of, AddsNumbers, HaveSameNumbers, KeepOthers, lists_by_node, no_list, place_of, HaveNoneElsewhere, IsPlaceOf, KeepPlaces, LeadBack}

-- ---- the table

-- the next place of a node leads back to it
pub LeadBack-added : (places nodes grown : List ℕ) (node place : ℕ) → LeadBack places nodes → grown ≡ nodes ++ node ∷ []
    → place ≡ length grown → node < length places → LeadBack (set places node place) grown
LeadBack-added places nodes grown node place back is last within other index at = elim (cases_eq other node) [
  | inl own ↦
      let here : place ≡ suc index =
      sym (ap (λ n. get_or (set places node place) n 0) own ∙ get_or-set_same places node place 0 within) ∙ at in
      let end : index ≡ length nodes = omega (arith, here, last, ap length is, length_push nodes node) in
      ap (λ all. slice_get all index) is
      ∙ slice_get-get_or (nodes ++ node ∷ []) index node (omega (arith, end, length_push nodes node))
      ∙ ap Some (get_or_push nodes node node index (sym end) ∙ sym own)
  | inr differs ↦
      ap (λ all. slice_get all index) is
      ∙ slice_get-first nodes (node ∷ []) index other
      (back other index (sym (get_or-set_other places node other place 0 differs) ∙ at))
]

-- a place that a node has is one of the places of nodes
pub IsPlaceOf-known : (places nodes : List ℕ) (node place : ℕ) → LeadBack places nodes → place_of places node ≡ place
    → 0 < place → IsPlaceOf places nodes node place
IsPlaceOf-known places nodes node zero back is some = absurd (omega (arith, some))
IsPlaceOf-known places nodes node (suc index) back is some =
    let within = slice_get_within nodes index node (back node index is) in
    (is, some, omega (arith, within))

-- ---- the numbers of nodes

items-unwrap_or : (found : Option (SmallVec ℕ)) → (unwrap_or found no_list).items ≡ numbers_in found
items-unwrap_or None = refl
items-unwrap_or (Some list) = refl

-- are those of their places
pub numbers_of-by_node : (places : List ℕ) (lists : List (SmallVec ℕ)) (node : ℕ) → numbers_of lists 0 ≡ []
    → numbers_of (lists_by_node places lists) node ≡ numbers_of lists (place_of places node)
numbers_of-by_node [] lists node none = sym none
numbers_of-by_node (place ∷ places) lists zero none = items-unwrap_or (slice_get lists place)
numbers_of-by_node (place ∷ places) lists (suc node) none = numbers_of-by_node places lists node none

pub HaveSameNumbers-by_node : (places : List ℕ) (old new : List (SmallVec ℕ)) → numbers_of old 0 ≡ []
    → HaveSameNumbers old new → HaveSameNumbers (lists_by_node places old) (lists_by_node places new)
HaveSameNumbers-by_node places old new none same node =
    numbers_of-by_node places new node (same 0 ∙ none) ∙ same (place_of places node)
    ∙ sym (numbers_of-by_node places old node none)

module _ (places moved nodes grown : List ℕ) (old : List (SmallVec ℕ)) (none : HaveNoneElsewhere nodes old)
    (kept : KeepPlaces nodes places moved) where
  -- a node that gets a place has no numbers there yet
  numbers_of-moved : (node : ℕ) → numbers_of old (place_of moved node) ≡ numbers_of (lists_by_node places old) node
  numbers_of-moved node = elim (kept node) [
    | inl same ↦ ap (numbers_of old) same ∙ sym (numbers_of-by_node places old node none.0)
    | inr (before, new) ↦
        none.1 (place_of moved node) new
        ∙ sym (numbers_of-by_node places old node none.0 ∙ ap (numbers_of old) before ∙ none.0)
  ]

  module _ (new : List (SmallVec ℕ)) (node place : ℕ) (back : LeadBack moved grown)
      (is : IsPlaceOf moved grown node place) (others : KeepOthers place old new) where
    none_new : numbers_of new 0 ≡ []
    none_new = let some = is.1 in others 0 (λ same. omega (arith, same, some)) ∙ none.0

    -- no other node has the place
    only : (other : ℕ) → place_of moved other ≡ place → other ≡ node
    only other at = by place is at
      where
        by : (p : ℕ) → IsPlaceOf moved grown node p → place_of moved other ≡ p → other ≡ node
        by zero own at = absurd (let some = own.1 in omega (arith, some))
        by (suc index) own at = same_Some other node (sym (back other index at) ∙ back node index own.0)

    after : (n : ℕ) → numbers_of (lists_by_node moved new) n ≡ numbers_of new (place_of moved n)
    after n = numbers_of-by_node moved new n none_new

    -- so the numbers that come at the place come at the node, and no others
    pub AddsNumbers-by_node : (P Q : ℕ → ℕ → Type 0) → ((n number : ℕ) → P n number → (n ≡ place) × Q node number)
        → ((n number : ℕ) → Q n number → (n ≡ node) × P place number)
        → AddsNumbers P old new → AddsNumbers Q (lists_by_node places old) (lists_by_node moved new)
    AddsNumbers-by_node P Q to from adds = record {
      kept = λ n number has. rw (after n) (adds.kept (place_of moved n) number (rw (numbers_of-moved n) has));
      sound = λ n number has. elim (adds.sound (place_of moved n) number (rw (after n) at has)) [
        | inl before ↦ inl (rw (numbers_of-moved n) at before)
        | inr came ↦ let (here, so) = to (place_of moved n) number came in inr (rw (only n here) so)
      ];
      complete = λ n number so.
          let (own, came) = from n number so in
          let there : place_of moved n ≡ place = ap (place_of moved) own ∙ is.0 in rw (after n, there) (adds.complete place number came);
    }
