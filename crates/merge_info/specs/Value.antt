-- The value of `svn:mergeinfo`: for each source path the revisions that were merged from it (Subversion book,
-- "Branching and Merging", "Mergeinfo and Previews").
use Rattle.std.specs.Prelude.{◌≡◌, ◌≢◌, ℕ, false, List, [], ◌∷◌, Option, Some, None, All, bytes_eq, filter, flat_map, map}
use Rattle.std.specs.Cmp.Lexicographic.{slice_cmp}
use Rattle.std.specs.Io.BufRead.{strip_last}
use Rattle.std.specs.List.{slice_split}
use Rattle.std.specs.Ordering.{nat_cmp}
use Rattle.std.specs.declared.cmp.Ordering.TheVariants.{Less}
use Rattle.range_list.specs.Rangelist.{IsCanonical, HasSameNumbers}
use Rattle.range_list.specs.declared.run.Run.{Run}
use Rattle.svn_text.specs.Line.{is_newline}
use Rattle.merge_info.specs.Line.{IsPrintedPath, Line, all_of, line_of}
use Rattle.merge_info.specs.declared.entry.Entry.{Entry as KeptEntry}

-- a source path and the revisions that were merged from it; a line of a text has the same form
abbrev pub Entry : Type 0
Entry = Line

-- a value has an entry for each of its paths
abbrev pub MergeInfoValue : Type 0
MergeInfoValue = List Entry

-- ---- of a text

-- the lines that newlines separate
abbrev pub lines_between : List ℕ → List (List ℕ)
lines_between [] = []
lines_between (byte ∷ bytes) = slice_split is_newline (byte ∷ bytes)

-- the lines of a text, where one newline at the end begins no line
abbrev pub text_lines : List ℕ → List (List ℕ)
text_lines text = lines_between (strip_last 10 text)

-- what the lines of a text say, unless one is malformed
unfoldable pub lines_of : List ℕ → Option (List Line)
lines_of text = all_of (map line_of (text_lines text))

-- the revisions of a path, in all its lines
abbrev pub runs_at : List Line → List ℕ → List Run
runs_at lines path = flat_map (λ line. line.runs) (filter (λ line. bytes_eq line.path path) lines)

-- runs, if there are any
abbrev pub some_runs : List Run → Option (List Run)
some_runs [] = None
some_runs (run ∷ runs) = Some (run ∷ runs)

abbrev pub ranges_of : MergeInfoValue → List ℕ → Option (List Run)
ranges_of value path = some_runs (runs_at value path)

-- the two give each path the same revisions
abbrev pub HasSameRevisions : List Line → List Line → Type 0
HasSameRevisions a b = (path : List ℕ) → HasSameNumbers (runs_at a path) (runs_at b path)

-- a path with a rangelist that is not empty
pub record IsEntry (entry : Entry) : Type 0 where
  pub path : IsPrintedPath entry.path
  pub canonical : IsCanonical entry.runs
  pub some : entry.runs ≢ []

abbrev pub IsBefore : Entry → Entry → Type 0
IsBefore a b = slice_cmp nat_cmp a.path b.path ≡ Less

-- each path is before the next, so that no path stands twice
abbrev pub AreRising : List Entry → Type 0
AreRising [] = Unit {0}
AreRising (entry ∷ []) = Unit {0}
AreRising (entry ∷ next ∷ entries) = IsBefore entry next × AreRising (next ∷ entries)

pub record IsMergeInfo (value : MergeInfoValue) : Type 0 where
  pub entries : All IsEntry value
  pub rising : AreRising value

-- no other value gives each path the same revisions
abbrev pub IsOnlyMergeInfo : MergeInfoValue → Type 0
IsOnlyMergeInfo value = (other : MergeInfoValue) → IsMergeInfo other → HasSameRevisions other value → other ≡ value

-- a text can give the path, since no newline stands in it
abbrev pub IsOnOneLine : Entry → Type 0
IsOnOneLine entry = All (λ byte. is_newline byte ≡ false) entry.path

-- the text is one of this value
pub record IsTextOf (text : List ℕ) (value : MergeInfoValue) : Type 0 where
  pub lines : List Line
  pub read : lines_of text ≡ Some lines
  pub same : HasSameRevisions value lines

abbrev pub entry_view : KeptEntry → Entry
entry_view entry = record { path = entry.path.items; runs = entry.ranges }
