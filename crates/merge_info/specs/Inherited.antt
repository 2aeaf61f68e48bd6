-- The mergeinfo that a path inherits from a directory above it (Subversion book, "Branching and Merging", "Subtree Merges
-- and Subtree Mergeinfo").
use Rattle.std.specs.Prelude.{ℕ, ◌==◌, nat_lt, Bool, true, false, ◌&&◌, not, List, [], ◌∷◌, ◌++◌, Option, Some, None, bytes_eq, codes, map, if◌then◌else◌}
use Rattle.svn_path.specs.Components.{parts_of, path_text}
use Rattle.range_list.specs.Rangelist.{inheritable_runs}
use Rattle.merge_info.specs.Line.{Line}
use Rattle.merge_info.specs.Value.{AreRising, Entry, MergeInfoValue}

-- a source path followed by the rest of a path
abbrev pub path_below : List ℕ → List ℕ → List ℕ
path_below path rest = path_text (parts_of path ++ parts_of rest)

-- the inheritable revisions of each source path, for the path below it
abbrev pub inherited_line : List ℕ → Entry → Line
inherited_line rest entry = record { path = path_below entry.path rest; runs = inheritable_runs entry.runs }

abbrev pub inherited_lines : List ℕ → MergeInfoValue → List Line
inherited_lines rest value = map (inherited_line rest) value

-- the first byte that differs is less, or the second path goes on with a byte after `/`
abbrev pub stays_before : List ℕ → List ℕ → Bool
stays_before [] [] = false
stays_before [] (byte ∷ next) = nat_lt 47 byte
stays_before (byte ∷ path) [] = false
stays_before (byte ∷ path) (other ∷ next) = if byte == other then stays_before path next else nat_lt byte other

-- so that the first path, which is not the root, is before the second whatever follows both
abbrev pub is_before_below : List ℕ → List ℕ → Bool
is_before_below path next = not (bytes_eq path (codes "/")) && stays_before path next

-- the source paths are in the same order whatever follows them
abbrev pub KeepTheirOrder : MergeInfoValue → Type 0
KeepTheirOrder value = (rest : List ℕ) → AreRising (inherited_lines rest value)

-- a revision is inherited if it is inheritable
abbrev pub inherited_revision : Option Bool → Option Bool
inherited_revision None = None
inherited_revision (Some false) = None
inherited_revision (Some true) = Some true
