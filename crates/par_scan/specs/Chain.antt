-- Elements that act on points, one after another, and stand between borders.
use Rattle.std.specs.Prelude.{◌≡◌, ℕ, ◌+◌, ◌^◌, ◌<◌, List, [], ◌∷◌, ◌++◌, slice_index_or, length, ◌-◌, take, ⊤}
use Rattle.std.specs.List.{sum_by}

-- all elements act on a point, the last one first
abbrev pub act_all : {M P : Type 0} → (M → P → P) → List M → P → P
act_all act [] point = point
act_all act (first ∷ rest) point = act first (act_all act rest point)

-- the element acts as all items do, one after another
abbrev pub ActsAsAll : {M P : Type 0} → (M → P → P) → List M → M → Type 0
ActsAsAll {M} {P} act items joined = (point : P) → act joined point ≡ act_all act items point

-- each element begins where the one before it ends
abbrev pub Meet : {M : Type 0} → (M → ℕ) → (M → ℕ) → List M → Type 0
Meet begin end [] = ⊤
Meet begin end (only ∷ []) = ⊤
Meet begin end (earlier ∷ later ∷ rest) = (end earlier ≡ begin later) × Meet begin end (later ∷ rest)

-- neighbours meet, and what they weigh fits in 64 bits
pub record IsChain {M : Type 0} (begin end weight : M → ℕ) (items : List M) : Type 0 where
  pub meet : Meet begin end items
  pub light : sum_by weight items < 2 ^ 64

-- a chain of at least one element
pub record IsSomeChain {M : Type 0} (begin end weight : M → ℕ) (items : List M) : Type 0 where
  pub some : 0 < length items
  pub chain : IsChain begin end weight items

-- two shorter chains, one after the other, are the whole
pub record AreHalves {M : Type 0} (begin end weight : M → ℕ) (items front back : List M) : Type 0 where
  pub whole : items ≡ front ++ back
  pub front_shorter : length front < length items
  pub back_shorter : length back < length items
  pub front_chain : IsSomeChain begin end weight front
  pub back_chain : IsSomeChain begin end weight back

-- the element changes no point, and both its borders are where the other one begins
pub record IsUnitOf {M P : Type 0} (act : M → P → P) (begin end : M → ℕ) (later unit : M) : Type 0 where
  pub acts : (point : P) → act unit point ≡ point
  pub begins : begin unit ≡ begin later
  pub ends : end unit ≡ begin later

-- the element acts as the other one, between the same borders
pub record ActsLike {M P : Type 0} (act : M → P → P) (begin end : M → ℕ) (given like : M) : Type 0 where
  pub acts : (point : P) → act like point ≡ act given point
  pub begins : begin like ≡ begin given
  pub ends : end like ≡ end given

-- the element acts as all items, from where the first one begins to where the last one ends; there is an item
pub record IsJoined {M P : Type 0} (act : M → P → P) (begin end : M → ℕ) (items : List M) (joined : M) : Type 0 where
  pub some : 0 < length items
  pub acts : ActsAsAll act items joined
  pub begins : (d : M) → begin joined ≡ begin (slice_index_or items 0 d)
  pub ends : (d : M) → end joined ≡ end (slice_index_or items (length items - 1) d)

-- at each index stands an element that is all items up to that index, joined
abbrev pub AreJoinedUpTo : {M P : Type 0} → (M → P → P) → (M → ℕ) → (M → ℕ) → List M → List M → Type 0
AreJoinedUpTo {M} act begin end items joined =
    (index : ℕ) (d : M) → index < length items
    → IsJoined act begin end (take (index + 1) items) (slice_index_or joined index d)
