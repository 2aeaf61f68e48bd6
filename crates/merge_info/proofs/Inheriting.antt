-- The lines that a path inherits are lines.
use Rattle.merge_info.proofs.Common.{ℕ, List, ◌++◌, All, get_or, All-append, All-filter, All-map, list_any_none, IsRun, Run, IsComponent, is_dot, parts_of, AreRuns-from_canonical, components-parts_of, inherited_line, inherited_lines, path_below, IsLine, IsPrintedPath, Line, IsEntry}
use Rattle.merge_info.proofs.PrintedPaths.{IsPrintedPath-path_text}

-- the parts of a printed path
pub components-printed : (path : List ℕ) → IsPrintedPath path → All IsComponent (parts_of path)
components-printed path printed = components-parts_of path (list_any_none is_dot (parts_of path) printed.no_dot)

-- a path below another
IsPrintedPath-path_below : (path rest : List ℕ) → IsPrintedPath path → IsPrintedPath rest
    → IsPrintedPath (path_below path rest)
IsPrintedPath-path_below path rest first second =
    IsPrintedPath-path_text (parts_of path ++ parts_of rest)
    (All-append IsComponent (parts_of path) (parts_of rest) (components-printed path first) (components-printed rest second))

-- what a path below inherits
pub AreLines-inherited : (rest : List ℕ) (value : List Line) → IsPrintedPath rest → All IsEntry value
    → All IsLine (inherited_lines rest value)
AreLines-inherited rest value printed entries = All-map IsLine (inherited_line rest) value (λ k d below.
    let entry = get_or value k d in
    record {
      path = IsPrintedPath-path_below entry.path rest (entries k d below).path printed;
      runs = All-filter (λ (run : Run). run.inheritable) IsRun entry.runs
          (AreRuns-from_canonical entry.runs (entries k d below).canonical);
    })
