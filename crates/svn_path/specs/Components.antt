-- The components of a path. Subversion's dump format notes give paths as bytes, cut at `/`; the names `.` and
-- `..` stand in no repository (Subversion book, "Repository URLs and paths").
use Rattle.std.specs.Prelude.{ℕ, ◌==◌, Bool, ◌||◌, List, [], ◌∷◌, filter, IsTrue, IsFalse, bytes_eq, codes, flat_map}
use Rattle.std.specs.List.{slice_split, list_any}
use Rattle.svn_text.specs.Bytes.{is_not_empty}

abbrev pub is_slash : ℕ → Bool
is_slash byte = byte == 47

-- what stands between the slashes, empty parts dropped
abbrev pub parts_of : List ℕ → List (List ℕ)
parts_of bytes = filter is_not_empty (slice_split is_slash bytes)

-- `.` or `..`
abbrev pub is_dot : List ℕ → Bool
is_dot part = bytes_eq part (codes ".") || bytes_eq part (codes "..")

-- some part of the path is `.` or `..`
abbrev pub HasDot : List ℕ → Type 0
HasDot bytes = IsTrue (list_any is_dot (parts_of bytes))

pub record IsComponent (part : List ℕ) : Type 0 where
  pub not_empty : IsTrue (is_not_empty part)
  pub no_slash : IsFalse (list_any is_slash part)
  pub not_dot : IsFalse (is_dot part)

-- a slash before each component
abbrev pub parts_text : List (List ℕ) → List ℕ
parts_text parts = flat_map (λ each. 47 ∷ each) parts

-- a slash before each component, and one for the root
abbrev pub path_text : List (List ℕ) → List ℕ
path_text [] = codes "/"
path_text (part ∷ parts) = parts_text (part ∷ parts)
