-- The first line of bytes, and a header's name and value.
use Rattle.std.specs.Prelude.{◌≡◌, ℕ, List, ◌∷◌, ◌++◌, IsFalse}
use Rattle.std.specs.List.{list_any}
use Rattle.svn_dump.specs.Block.{IsHeader, header_name, header_value}
use Rattle.svn_text.specs.Line.{is_newline}

-- no line of the bytes is complete
abbrev pub HasNoLine : List ℕ → Type 0
HasNoLine bytes = IsFalse (list_any is_newline bytes)

abbrev pub IsFirstLine : List ℕ → List ℕ → List ℕ → Type 0
IsFirstLine bytes line rest = IsFalse (list_any is_newline line) × (bytes ≡ line ++ 10 ∷ rest)

-- the line is a header of this name and this value
abbrev pub IsHeaderOf : List ℕ → List ℕ → List ℕ → Type 0
IsHeaderOf line name value = IsHeader line × (name ≡ header_name line) × (value ≡ header_value line)
