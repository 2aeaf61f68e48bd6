-- One path at or under another (Subversion book, "Tracing the history of a moved item": a copy takes along
-- all that stands at its source or below it).
use Rattle.std.specs.Prelude.{Bool, true, false, List, [], ◌∷◌, Option, Some, None, is_some, if◌then◌else◌}

-- what is left of a path that stands at the front or under it
abbrev pub below : {C : Type 0} → (C → C → Bool) → List C → List C → Option (List C)
below same [] path = Some path
below same (f ∷ front) [] = None
below same (f ∷ front) (c ∷ path) = if same f c then below same front path else None

abbrev pub is_below : {C : Type 0} → (C → C → Bool) → List C → List C → Bool
is_below same front path = is_some (below same front path)

-- two paths are the same
abbrev pub same_path : {C : Type 0} → (C → C → Bool) → List C → List C → Bool
same_path same [] [] = true
same_path same [] (c ∷ path) = false
same_path same (f ∷ front) [] = false
same_path same (f ∷ front) (c ∷ path) = if same f c then same_path same front path else false

-- the path above, none above the root
abbrev pub parent_of : {C : Type 0} → List C → Option (List C)
parent_of [] = None
parent_of (c ∷ []) = Some []
parent_of (c ∷ d ∷ path) = elim (parent_of (d ∷ path)) [ None ↦ None | Some above ↦ Some (c ∷ above) ]
