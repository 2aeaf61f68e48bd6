-- A table of names: each component once, numbered from 0 in the order in which they came.
use Rattle.std.specs.Prelude.{ℕ, ◌+◌, ◌≤◌, Bool, List, All, fold, length, replicate, slice_index_or, bytes_eq}
use Rattle.std.specs.List.{IsDistinct}
use Rattle.svn_text.specs.TextTable.{has_text, most_texts, with_text, HasNoRoomFor as HasNoRoomForText}
use Rattle.svn_path.specs.Components.{IsComponent}

-- how many names a table holds at most
abbrev pub most_names : ℕ
most_names = most_texts

abbrev pub has_name : List (List ℕ) → List ℕ → Bool
has_name names name = has_text names name

-- the table with a name that it may have already
abbrev pub with_name : List (List ℕ) → List ℕ → List (List ℕ)
with_name names name = with_text names name

-- the table is full and doesn't have the name
abbrev pub HasNoRoomFor : List (List ℕ) → List ℕ → Type 0
HasNoRoomFor names name = HasNoRoomForText names name

-- the table with these names, one after another
abbrev pub with_names : List (List ℕ) → List (List ℕ) → List (List ℕ)
with_names names added = fold with_name names added

-- the name of a number; a number past the end of the table stands for so many slashes that no component and no other
-- number has the same
abbrev pub name_of : List (List ℕ) → ℕ → List ℕ
name_of names number = slice_index_or names number (replicate (number + 1) 47)

-- what every table keeps
pub record IsTable (names : List (List ℕ)) : Type 0 where
  pub few : length names ≤ most_names
  pub components : All IsComponent names
  pub distinct : IsDistinct bytes_eq names
