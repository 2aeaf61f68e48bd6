-- Rising lists of numbers, one for each node.
use Rattle.std.specs.Prelude.{◌≡◌, ◌≢◌, ℕ, ◌+◌, ◌^◌, ◌<◌, ◌≤◌, ◌==◌, ◌⊎◌, max, Bool, List, [], AllPairs, All, Contains, Option, None, Some, slice_get, length, slice_index_or}
use Rattle.smallvec.specs.SmallVec.{SmallVec}
use Rattle.std.specs.List.{list_any}

abbrev pub IsRising : List ℕ → Type 0
IsRising numbers = AllPairs (λ each later. each < later) numbers

abbrev pub numbers_in : Option (SmallVec ℕ) → List ℕ
numbers_in None = []
numbers_in (Some list) = list.items

-- the numbers of a node: past the end of the lists it has none
abbrev pub numbers_of : List (SmallVec ℕ) → ℕ → List ℕ
numbers_of lists node = numbers_in (slice_get lists node)

abbrev pub HasNumber : List (SmallVec ℕ) → ℕ → ℕ → Type 0
HasNumber lists node number = Contains (numbers_of lists node) number

abbrev pub has_number : List (SmallVec ℕ) → ℕ → ℕ → Bool
has_number lists node number = list_any (λ each. number == each) (numbers_of lists node)

abbrev pub AreAllRising : List (SmallVec ℕ) → Type 0
AreAllRising lists = (node : ℕ) → IsRising (numbers_of lists node)

-- each node has the same numbers in both
abbrev pub HaveSameNumbers : List (SmallVec ℕ) → List (SmallVec ℕ) → Type 0
HaveSameNumbers old new = (node : ℕ) → numbers_of new node ≡ numbers_of old node

-- the other nodes have the same numbers in both
abbrev pub KeepOthers : ℕ → List (SmallVec ℕ) → List (SmallVec ℕ) → Type 0
KeepOthers node old new = (other : ℕ) → other ≢ node → numbers_of new other ≡ numbers_of old other

-- one number more
pub record IsWith (number : ℕ) (old new : List ℕ) : Type 0 where
  pub kept : (each : ℕ) → Contains old each → Contains new each
  pub sound : (each : ℕ) → Contains new each → Contains old each ⊎ (each ≡ number)
  pub here : Contains new number

-- the new lists have the numbers of the old ones and those of which this holds
pub record AddsNumbers (IsNew : ℕ → ℕ → Type 0) (old new : List (SmallVec ℕ)) : Type 0 where
  pub kept : (node number : ℕ) → HasNumber old node number → HasNumber new node number
  pub sound : (node number : ℕ) → HasNumber new node number → HasNumber old node number ⊎ IsNew node number
  pub complete : (node number : ℕ) → IsNew node number → HasNumber new node number

-- the node and the number are these
abbrev pub ArePair : ℕ → ℕ → ℕ → ℕ → Type 0
ArePair node number other each = (other ≡ node) × (each ≡ number)

-- the number is one of these plus a shift, at the node
pub record IsShifted (numbers : List ℕ) (shift node other number : ℕ) : Type 0 where
  pub here : other ≡ node
  pub earlier : ℕ
  pub within : Contains numbers earlier
  pub is : number ≡ earlier + shift

-- the number is one of the first nodes plus a shift, at the node to which that node is mapped
pub record IsMoved (lists : List (SmallVec ℕ)) (nodes : List ℕ) (count shift node number : ℕ) : Type 0 where
  pub from : ℕ
  pub early : from < count
  pub mapped : slice_get nodes from ≡ Some node
  pub earlier : ℕ
  pub has : HasNumber lists from earlier
  pub is : number ≡ earlier + shift

-- the numbers plus a shift are below 2^32
pub record FitShifted (lists : List (SmallVec ℕ)) (shift : ℕ) : Type 0 where
  pub fits : (node number : ℕ) → HasNumber lists node number → number + shift < 2 ^ 32

-- the numbers up to this one, in rising order
pub record IsFrontUpTo (last : ℕ) (numbers front : List ℕ) : Type 0 where
  pub rising : IsRising front
  pub within : All (λ each. each ≤ last) front
  pub among : (number : ℕ) → Contains front number → Contains numbers number
  pub whole : (number : ℕ) → Contains numbers number → number ≤ last → Contains front number

-- the index of the first of the numbers that is not below this one
pub record IsFirstNotBelow (number : ℕ) (numbers : List ℕ) (index : ℕ) : Type 0 where
  pub bound : index ≤ length numbers
  pub before : (k d : ℕ) → k < index → slice_index_or numbers k d < number
  pub after : (k d : ℕ) → index ≤ k → k < length numbers → number ≤ slice_index_or numbers k d

-- the greatest number below the limit of which this holds
abbrev pub IsNewestBelow : ℕ → (ℕ → Type 0) → Option ℕ → Type 0
IsNewestBelow limit Holds None = (number : ℕ) → number < limit → Holds number → ⊥
IsNewestBelow limit Holds (Some newest) =
    (newest < limit) × Holds newest × ((number : ℕ) → newest < number → number < limit → Holds number → ⊥)

abbrev pub newer_of : Option ℕ → Option ℕ → Option ℕ
newer_of None other = other
newer_of (Some a) None = Some a
newer_of (Some a) (Some b) = Some (max a b)
