-- A line of the text of `svn:mergeinfo`: a source path, a colon and a rangelist (Subversion's design notes on merge
-- tracking, "The mergeinfo property").
use Rattle.std.specs.Prelude.{◌≡◌, ℕ, ◌==◌, nat_le, Bool, false, ◌&&◌, ◌||◌, not, List, [], ◌∷◌, Option, Some, None, All, drop, map, option_and_then, option_map, if◌then◌else◌}
use Rattle.std.specs.List.{list_any, before_last, after_last, prefix_len, slice_split}
use Rattle.svn_path.specs.Components.{is_dot, parts_of, path_text}
use Rattle.svn_text.specs.Bytes.{is_colon}
use Rattle.range_list.specs.Rangelist.{IsRun}
use Rattle.range_list.specs.declared.run.Run.{Run}
use Rattle.merge_info.specs.Element.{element_of}
use Rattle.merge_info.specs.declared.line.Line.{Line as KeptLine}

abbrev pub is_comma : ℕ → Bool
is_comma byte = byte == 44

-- a space or a tab
abbrev pub is_blank : ℕ → Bool
is_blank byte = byte == 32 || byte == 9

-- a printed path and revisions that were merged from it
pub record Line : Type 0 where
  pub path : List ℕ
  pub runs : List Run

-- all of them, if none is missing
abbrev pub all_of : {X : Type 0} → List (Option X) → Option (List X)
all_of [] = Some []
all_of (each ∷ more) = option_and_then (λ first. option_map (λ rest. first ∷ rest) (all_of more)) each

-- nothing, or elements separated by one comma each
unfoldable pub elements_of : List ℕ → Option (List Run)
elements_of [] = Some []
elements_of (byte ∷ bytes) = all_of (map element_of (slice_split is_comma (byte ∷ bytes)))

-- the first is inheritable, the second is not, and they share a number
abbrev pub clashes : Run → Run → Bool
clashes a b = a.inheritable && not b.inheritable && nat_le a.lo b.hi && nat_le b.lo a.hi

-- some number is given both with and without `*`
unfoldable pub has_clash : List Run → Bool
has_clash runs = list_any (λ a. list_any (λ b. clashes a b) runs) runs

-- the bytes after the blanks at the front
abbrev pub without_blanks : List ℕ → List ℕ
without_blanks bytes = drop (prefix_len is_blank bytes) bytes

-- no component of the path is `.` or `..`, and no number is given both ways
abbrev pub line_from : List ℕ → List Run → Option Line
line_from path runs =
    if list_any is_dot (parts_of path) then None
    else (if has_clash runs then None
    else Some (record { path = path_text (parts_of path); runs = runs }))

-- the last colon ends the path; blanks may follow it
unfoldable pub line_of : List ℕ → Option Line
line_of bytes =
    if list_any is_colon bytes
    then option_and_then (line_from (before_last is_colon bytes)) (elements_of (without_blanks (after_last is_colon bytes)))
    else None

-- the path is as it is printed
pub record IsPrintedPath (path : List ℕ) : Type 0 where
  pub printed : path_text (parts_of path) ≡ path
  pub no_dot : All (λ part. is_dot part ≡ false) (parts_of path)

-- what every line has
pub record IsLine (line : Line) : Type 0 where
  pub path : IsPrintedPath line.path
  pub runs : All IsRun line.runs

-- what a line that was read stands for
abbrev pub line_view : KeptLine → Line
line_view line = record { path = line.path.items; runs = line.runs.items }
