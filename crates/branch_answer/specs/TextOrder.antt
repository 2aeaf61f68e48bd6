-- Paths in the order of the bytes of their texts.
use Rattle.std.specs.Prelude.{ℕ, List, [], fold, map}
use Rattle.std.specs.BTreeMap.{insert_entry}
use Rattle.std.specs.Cmp.Lexicographic.{slice_cmp}
use Rattle.std.specs.Global.{Vec}
use Rattle.std.specs.Ordering.{nat_cmp}
use Rattle.svn_path.specs.Components.{path_text}
use Rattle.svn_path.specs.Path.{components_of}
use Rattle.svn_path.specs.declared.names.NameId.{NameId}

-- one more, in its place
abbrev pub with_text : {X : Type 0} → List (List ℕ × X) → List ℕ × X → List (List ℕ × X)
with_text sorted each = insert_entry (slice_cmp nat_cmp) sorted each.0 each.1

-- in the order of their texts
abbrev pub sorted_by_text : {X : Type 0} → List (List ℕ × X) → List (List ℕ × X)
sorted_by_text each = fold with_text [] each

-- a path with its text
abbrev pub path_by_text : List (List ℕ) → List NameId → List ℕ × List NameId
path_by_text names path = (path_text (components_of names path), path)

abbrev pub paths_by_text : List (List ℕ) → List (List NameId) → List (List ℕ × List NameId)
paths_by_text names paths = map (path_by_text names) paths

-- the entries of a map
abbrev pub entries_by_text : List (Vec ℕ × List NameId) → List (List ℕ × List NameId)
entries_by_text entries = map (λ entry. (entry.0.items, entry.1)) entries
