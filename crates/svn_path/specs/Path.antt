-- A path by the numbers of its components in a table of names.
use Rattle.std.specs.Prelude.{◌≡◌, ℕ, ◌<◌, ◌==◌, Bool, List, All, Any, map, length, IsFalse}
use Rattle.svn_path.specs.Names.{name_of, has_name, most_names}
use Rattle.svn_path.specs.declared.names.NameId.{NameId}

abbrev pub same_name : NameId → NameId → Bool
same_name a b = a.0 == b.0

-- each of the numbers is one of the table's
abbrev pub IsPathOf : List (List ℕ) → List NameId → Type 0
IsPathOf names path = All (λ name. name.0 < length names) path

-- the components that the numbers stand for
abbrev pub components_of : List (List ℕ) → List NameId → List (List ℕ)
components_of names path = map (λ name. name_of names name.0) path

-- some part is none of the table's names
abbrev pub HasUnknown : List (List ℕ) → List (List ℕ) → Type 0
HasUnknown names parts = Any (λ part. IsFalse (has_name names part)) parts

-- the table is full and lacks some part
abbrev pub HasNoRoomForAll : List (List ℕ) → List (List ℕ) → Type 0
HasNoRoomForAll names parts = (length names ≡ most_names) × HasUnknown names parts
