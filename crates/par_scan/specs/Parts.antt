-- What is made of the parts of a list, each of neighbours.
use Rattle.std.specs.Prelude.{◌≡◌, ℕ, ◌+◌, ◌-◌, ◌*◌, ◌<◌, ◌≤◌, min, List, [], ◌∷◌, length, slice_index_or, take, Vec}
use Rattle.std.specs.Global.{Global}
use Rattle.std.specs.Fork.{slice_chunk}
use Rattle.par_scan.specs.Chain.{IsChain, IsJoined}

-- how many parts there may be
abbrev pub most_parts : ℕ
most_parts = 64

-- there are so many elements, and each suits its index, where the first one stands at `start`
pub record IsFilled {M : Type 0} (Suits : ℕ → M → Type 0) (start count : ℕ) (elements : List M) : Type 0 where
  pub len : length elements ≡ count
  pub each : (index : ℕ) (d : M) → index < count → Suits (start + index) (slice_index_or elements index d)

-- the elements are what is made of the parts in order; each part has `size` items, the last one perhaps fewer
pub record AreOfParts {M X : Type 0} (IsOf : List M → X → Type 0) (size : ℕ) (items : List M) (elements : List X) : Type 0 where
  pub covers : length items ≤ length elements * size
  pub inside : (part : ℕ) → part < length elements → part * size < length items
  pub each : (part : ℕ) (d : X) → part < length elements → IsOf (slice_chunk items size part) (slice_index_or elements part d)

-- the elements suit their indices, and are the part of that number of `count` elements
abbrev pub IsFilledPart : {M : Type 0} → (ℕ → M → Type 0) → ℕ → ℕ → ℕ → List M → Type 0
IsFilledPart Suits count size part elements = IsFilled Suits (part * size) (min size (count - part * size)) elements

-- the element is all items up to that index, joined
abbrev pub IsUpTo : {M P : Type 0} → (M → P → P) → (M → ℕ) → (M → ℕ) → List M → ℕ → M → Type 0
IsUpTo act begin end items index joined = IsJoined act begin end (take (index + 1) items) joined

-- the elements are all items up to each index, joined
abbrev pub IsScan : {M P : Type 0} → (M → P → P) → (M → ℕ) → (M → ℕ) → List M → List M → Type 0
IsScan act begin end items joined = IsFilled (IsUpTo act begin end items) 0 (length items) joined

-- the scans of the parts
abbrev pub AreScans : {M P : Type 0} → (M → P → P) → (M → ℕ) → (M → ℕ) → ℕ → List M → List (Vec M Global) → Type 0
AreScans act begin end size items scans = AreOfParts (λ run scan. IsScan act begin end run scan.items) size items scans

-- the last of the earlier elements, and the next one; `d` stands for the last one where there is none
abbrev pub last_and_next : {M : Type 0} → List M → M → M → List M
last_and_next earlier d next = slice_index_or earlier (length earlier - 1) d ∷ next ∷ []

-- the element is all items of the parts up to that one, joined
abbrev pub IsUpToPart : {M P : Type 0} → (M → P → P) → (M → ℕ) → (M → ℕ) → List M → ℕ → ℕ → M → Type 0
IsUpToPart act begin end items size part joined = IsJoined act begin end (take ((part + 1) * size) items) joined

-- the element is `before` and the item at that index, joined
abbrev pub IsAfter : {M P : Type 0} → (M → P → P) → (M → ℕ) → (M → ℕ) → M → List M → ℕ → M → Type 0
IsAfter {M} act begin end before items index joined = (d : M) → IsJoined act begin end (before ∷ slice_index_or items index d ∷ []) joined

-- each item may be joined to `before`
abbrev pub EachFits : {M : Type 0} → (M → ℕ) → (M → ℕ) → (M → ℕ) → M → List M → Type 0
EachFits {M} begin end weight before items =
    (index : ℕ) (d : M) → index < length items → IsChain begin end weight (before ∷ slice_index_or items index d ∷ [])

-- the items of the part after that one may each be joined to the element of that number
abbrev pub FitsAt : {M : Type 0} → (M → ℕ) → (M → ℕ) → (M → ℕ) → List M → List (Vec M Global) → ℕ → Type 0
FitsAt {M} begin end weight before parts part =
    (b : M) (p : Vec M Global) → EachFits begin end weight (slice_index_or before part b) (slice_index_or parts (part + 1) p).items

-- the elements are the items, each joined to `before`
abbrev pub AreAfter : {M P : Type 0} → (M → P → P) → (M → ℕ) → (M → ℕ) → M → List M → List M → Type 0
AreAfter act begin end before items joined = IsFilled (IsAfter act begin end before items) 0 (length items) joined

-- the elements are the items of the part after that one, each joined to the element of that number
abbrev pub IsAfterAt : {M P : Type 0} → (M → P → P) → (M → ℕ) → (M → ℕ) → List M → List (Vec M Global) → ℕ → List M → Type 0
IsAfterAt {M} act begin end before parts part joined =
    (b : M) (p : Vec M Global) → AreAfter act begin end (slice_index_or before part b) (slice_index_or parts (part + 1) p).items joined
