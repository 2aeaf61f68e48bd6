-- The values of the listed headers of some lines.
use Rattle.std.specs.Prelude.{◌≡◌, ℕ, ◌≤◌, List, [], ◌∷◌, ◌++◌, Option, All, count_by}
use Rattle.svn_dump.specs.Block.{header_name, header_value, is_header_named, listed_names}
use Rattle.svn_dump.specs.Field.{fields_of}

-- each listed name stands at most once
abbrev pub AreOnce : List (List ℕ) → Type 0
AreOnce lines = All (λ name. count_by (is_header_named name) lines ≤ 1) listed_names

-- these are the values of the lines' listed headers, each of which stands at most once
pub record AreHeaders (values : List (Option (List ℕ))) (lines : List (List ℕ)) : Type 0 where
  pub fields : values ≡ fields_of lines
  pub once : AreOnce lines

-- the values after one more line of this name and this value
abbrev pub AddsHeader : List (Option (List ℕ)) → List (Option (List ℕ)) → List ℕ → List ℕ → Type 0
AddsHeader old new name value =
    (lines : List (List ℕ)) (line : List ℕ) → header_name line ≡ name → header_value line ≡ value
    → AreHeaders old lines → AreHeaders new (lines ++ line ∷ [])

-- one more line of this name is a second one
abbrev pub RepeatsHeader : List (Option (List ℕ)) → List ℕ → Type 0
RepeatsHeader old name =
    (lines : List (List ℕ)) (line : List ℕ) → header_name line ≡ name → AreHeaders old lines → AreOnce (lines ++ line ∷ []) → ⊥
