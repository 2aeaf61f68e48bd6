-- The paths at and below a path that have mergeinfo of their own (Subversion book, "Subtree Merges and Subtree
-- Mergeinfo").
use Rattle.std.specs.Prelude.{ℕ, List, [], ◌∷◌, ◌++◌, Option, Some, None, bytes_eq, codes, flat_map, fold, map, if◌then◌else◌}
use Rattle.std.specs.BTreeMap.{insert_entry}
use Rattle.std.specs.Cmp.Lexicographic.{slice_cmp}
use Rattle.std.specs.List.{slice_split}
use Rattle.std.specs.Ordering.{nat_cmp}
use Rattle.svn_text.specs.Line.{is_newline}
use Rattle.svn_path.specs.Below.{is_below}
use Rattle.svn_path.specs.Components.{path_text}
use Rattle.svn_dump.specs.Tree.{Entry}
use Rattle.branch_answer.specs.Listing.{TreeOfBytes}

-- paths in the order of their bytes, each with the text of its mergeinfo
abbrev pub ExplicitTexts : Type 0
ExplicitTexts = List (List ℕ × List ℕ)

-- with one more, if it has mergeinfo
abbrev pub with_mergeinfo : List (List ℕ) → Option (List ℕ) → ExplicitTexts → ExplicitTexts
with_mergeinfo path None others = others
with_mergeinfo path (Some text) others = insert_entry (slice_cmp nat_cmp) others (path_text path) text

-- with one more, if it is at or below a path, too
abbrev pub with_explicit : List (List ℕ) → ExplicitTexts → List (List ℕ) × Entry (List ℕ) (List ℕ) → ExplicitTexts
with_explicit above others each =
    if is_below bytes_eq above each.0 then with_mergeinfo each.0 each.1.mergeinfo others else others

-- those at and below a path of a tree
unfoldable pub explicit_of : TreeOfBytes → List (List ℕ) → ExplicitTexts
explicit_of tree above = fold (with_explicit above) [] tree

-- ---- lines

-- the lines of a text, each after a space
abbrev pub text_lines : List ℕ → List (List ℕ)
text_lines text = map (λ line. codes " " ++ line) (slice_split is_newline text)

-- a path, and the lines of its text
abbrev pub lines_of_path : List ℕ × List ℕ → List (List ℕ)
lines_of_path each = (codes "mergeinfo " ++ each.0) ∷ text_lines each.1

abbrev pub explicit_lines : ExplicitTexts → List (List ℕ)
explicit_lines texts = flat_map lines_of_path texts
