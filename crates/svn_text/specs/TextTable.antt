-- A table of texts: each once, numbered from 0 in the order in which they came.
use Rattle.std.specs.Prelude.{◌≡◌, ℕ, ◌≤◌, Bool, List, [], ◌∷◌, ◌++◌, length, bytes_eq, IsFalse, if◌then◌else◌}
use Rattle.std.specs.List.{list_any, IsDistinct}

-- how many texts a table holds at most
abbrev pub most_texts : ℕ
most_texts = 4294967295

abbrev pub has_text : List (List ℕ) → List ℕ → Bool
has_text texts text = list_any (λ each. bytes_eq each text) texts

-- the table with a text that it may have already
abbrev pub with_text : List (List ℕ) → List ℕ → List (List ℕ)
with_text texts text = if has_text texts text then texts else texts ++ text ∷ []

-- the table is full and doesn't have the text
abbrev pub HasNoRoomFor : List (List ℕ) → List ℕ → Type 0
HasNoRoomFor texts text = (length texts ≡ most_texts) × IsFalse (has_text texts text)

-- what every table keeps
pub record IsTextTable (texts : List (List ℕ)) : Type 0 where
  pub few : length texts ≤ most_texts
  pub distinct : IsDistinct bytes_eq texts
