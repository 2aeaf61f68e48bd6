-- The one form of a value: its paths in the order of their bytes, each with its maximal runs (Subversion book,
-- "Branching and Merging", "Mergeinfo and Previews").
use Rattle.std.specs.Prelude.{ℕ, Bool, true, false, List, [], ◌∷◌, Option, filter, map, option_map}
use Rattle.std.specs.Cmp.Lexicographic.{slice_cmp}
use Rattle.std.specs.Ordering.{match_ordering, nat_cmp}
use Rattle.range_list.specs.Canonical.{canonical_runs}
use Rattle.range_list.specs.declared.run.Run.{Run}
use Rattle.merge_info.specs.Inherited.{inherited_lines}
use Rattle.merge_info.specs.Line.{Line}
use Rattle.merge_info.specs.Value.{Entry, MergeInfoValue, lines_of, runs_at}

-- paths in the order of their bytes with one more, if it is not among them
abbrev pub insert_path : List ℕ → List (List ℕ) → List (List ℕ)
insert_path path [] = path ∷ []
insert_path path (first ∷ paths) =
    match_ordering (slice_cmp nat_cmp path first) (path ∷ first ∷ paths) (first ∷ paths) (first ∷ insert_path path paths)

-- the paths of lines, each once
abbrev pub paths_of : List Line → List (List ℕ)
paths_of [] = []
paths_of (line ∷ lines) = insert_path line.path (paths_of lines)

-- the revisions of a path in all its lines
abbrev pub entry_at : List Line → List ℕ → Entry
entry_at lines path = record { path = path; runs = canonical_runs (runs_at lines path) }

abbrev pub is_some_run : List Run → Bool
is_some_run [] = false
is_some_run (run ∷ runs) = true

abbrev pub has_runs : Entry → Bool
has_runs entry = is_some_run entry.runs

unfoldable pub canonical_value : List Line → MergeInfoValue
canonical_value lines = filter has_runs (map (entry_at lines) (paths_of lines))

-- the value of a text, unless it is malformed
abbrev pub value_of : List ℕ → Option MergeInfoValue
value_of text = option_map canonical_value (lines_of text)

-- what a path inherits of a value, given the rest of the path
abbrev pub inherited_value : List ℕ → MergeInfoValue → MergeInfoValue
inherited_value rest value = canonical_value (inherited_lines rest value)
