-- What stands directly below a path of a tree, in the order of the bytes of the names (Subversion book, "Listing
-- versioned directories").
use Rattle.std.specs.Prelude.{ℕ, List, [], ◌∷◌, ◌++◌, Option, Some, None, bytes_eq, codes, flat_map, map, option_and_then}
use Rattle.std.specs.BTreeMap.{insert_entry}
use Rattle.std.specs.Cmp.Lexicographic.{slice_cmp}
use Rattle.std.specs.Ordering.{nat_cmp}
use Rattle.svn_text.specs.Line.{line_text}
use Rattle.svn_path.specs.Below.{below}
use Rattle.svn_dump.specs.Tree.{Tree}
use Rattle.svn_dump.specs.declared.record.Kind.{Kind}
use Rattle.svn_dump.specs.declared.record.Kind.TheVariants.{Dir, File}

abbrev pub TreeOfBytes : Type 0
TreeOfBytes = Tree (List ℕ) (List ℕ)

abbrev pub kind_text : Kind → List ℕ
kind_text File = codes "file"
kind_text Dir = codes "dir"

-- the component, if there is one alone
abbrev pub only_component : List (List ℕ) → Option (List ℕ)
only_component [] = None
only_component (name ∷ []) = Some name
only_component (name ∷ next ∷ rest) = None

-- the name of a path directly below another one
abbrev pub name_below : List (List ℕ) → List (List ℕ) → Option (List ℕ)
name_below above path = option_and_then only_component (below bytes_eq above path)

-- names in the order of their bytes with one more, each with its kind
abbrev pub with_child : Option (List ℕ) → Kind → List (List ℕ × Kind) → List (List ℕ × Kind)
with_child None kind children = children
with_child (Some name) kind children = insert_entry (slice_cmp nat_cmp) children name kind

-- the names directly below a path, each with its kind
unfoldable pub children_of : TreeOfBytes → List (List ℕ) → List (List ℕ × Kind)
children_of [] path = []
children_of (each ∷ tree) path = with_child (name_below path each.0) each.1.kind (children_of tree path)

abbrev pub child_line : List ℕ × Kind → List ℕ
child_line child = kind_text child.1 ++ codes " " ++ child.0

abbrev pub children_text : List (List ℕ × Kind) → List ℕ
children_text children = flat_map line_text (map child_line children)

abbrev pub list_lines : TreeOfBytes → List (List ℕ) → List (List ℕ)
list_lines tree path = map child_line (children_of tree path)
