-- The formats of a dump (Subversion's dump format notes, versions 2 and 3). Format 3 may hold deltas: its property
-- sections may be changes, and its texts differences.
use Rattle.std.specs.Prelude.{ℕ, List, Option, Some, None, bytes_eq, codes, if◌then◌else◌}
use Rattle.svn_dump.specs.declared.grammar.format.Format.{Format}
use Rattle.svn_dump.specs.declared.grammar.format.Format.TheVariants.{Two, Three}

-- its version, as the first line gives it
abbrev pub version : Format → List ℕ
version Two = codes "2"
version Three = codes "3"

-- the format of that version, if it is one that is read
abbrev pub format_of_version : List ℕ → Option Format
format_of_version value = if bytes_eq value (codes "2") then Some Two else (if bytes_eq value (codes "3") then Some Three else None)
