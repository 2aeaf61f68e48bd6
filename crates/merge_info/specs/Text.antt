-- The text of a value: a line for each path, in the order of the paths (Subversion's design notes on merge tracking,
-- "The mergeinfo property").
use Rattle.std.specs.Prelude.{ℕ, List, ◌++◌, codes, flat_map}
use Rattle.svn_text.specs.Line.{line_text}
use Rattle.range_list.specs.Text.{rangelist_text}
use Rattle.merge_info.specs.Inherited.{inherited_line}
use Rattle.merge_info.specs.Value.{Entry, MergeInfoValue}

abbrev pub printed_entry : Entry → List ℕ
printed_entry entry = entry.path ++ codes ":" ++ rangelist_text entry.runs

-- the line of what a path inherits of an entry
abbrev pub inherited_text : List ℕ → Entry → List ℕ
inherited_text rest entry = line_text (printed_entry (inherited_line rest entry))

-- each line ends with a newline
abbrev pub value_text : MergeInfoValue → List ℕ
value_text value = flat_map (λ entry. line_text (printed_entry entry)) value
