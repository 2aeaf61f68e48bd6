-- The text of a rangelist (Subversion's design notes on merge tracking, "The mergeinfo property").
use Rattle.std.specs.Prelude.{ℕ, ◌==◌, List, [], ◌++◌, codes, decimal, map, if◌then◌else◌}
use Rattle.std.specs.List.{join_with_byte}
use Rattle.range_list.specs.declared.run.Run.{Run}

-- the first number, and the last where it is another
abbrev pub range_text : Run → List ℕ
range_text run = if run.lo == run.hi then decimal run.lo else decimal run.lo ++ codes "-" ++ decimal run.hi

-- a star follows numbers that are not inheritable
abbrev pub run_text : Run → List ℕ
run_text run = range_text run ++ (if run.inheritable then [] else codes "*")

-- the runs are separated by commas
abbrev pub rangelist_text : List Run → List ℕ
rangelist_text runs = join_with_byte 44 (map run_text runs)
