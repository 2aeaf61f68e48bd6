-- The first line of a dump, as far as it has come.
use Rattle.std.specs.Prelude.{◌≡◌, ◌≢◌, ℕ, ◌≤◌, List, [], ◌++◌, None, Some, IsFalse, length, take}
use Rattle.std.specs.List.{list_any}
use Rattle.svn_text.specs.Line.{is_newline}
use Rattle.svn_dump.specs.DumpText.{first_line}
use Rattle.svn_dump.specs.FirstRefusal.{line_refusals, magic}
use Rattle.svn_dump.specs.Format.{format_of_version, version}
use Rattle.svn_dump.specs.Refusal.{first_holding}
use Rattle.svn_dump.specs.declared.grammar.format.Format.{Format}
use Rattle.svn_dump.specs.declared.refusal.Refusal.{Refusal}
use Rattle.svn_dump.specs.declared.pieces.partial_line.LineAfter.{LineAfter}
use Rattle.svn_dump.specs.declared.pieces.partial_line.LineAfter.TheVariants as after
use Rattle.svn_dump.specs.declared.pieces.partial_line.PartialLine.{PartialLine}
use Rattle.svn_dump.specs.declared.pieces.partial_line.PartialLine.TheVariants as line

-- the bytes are so much of the line before its value
pub record IsFrontOfLine (count : ℕ) (bytes : List ℕ) : Type 0 where
  pub within : count ≤ length magic
  pub front : bytes ≡ take count magic

-- the bytes are a first line without its newline, whose value is that of no format, and doesn't become it
pub record HasOtherVersion (bytes : List ℕ) : Type 0 where
  pub value : List ℕ
  pub begins : bytes ≡ magic ++ value
  pub one_line : IsFalse (list_any is_newline value)
  pub some : value ≢ []
  pub other : format_of_version value ≡ None

abbrev pub IsPartialLine : PartialLine → List ℕ → Type 0
IsPartialLine (line.Front count) bytes = IsFrontOfLine count bytes
IsPartialLine (line.Version format) bytes = bytes ≡ magic ++ version format
IsPartialLine line.OtherVersion bytes = HasOtherVersion bytes

-- the line goes on so, or the bytes are the whole line of a format
abbrev pub IsLineAfter : LineAfter → List ℕ → Type 0
IsLineAfter (after.GoesOn next) bytes = IsPartialLine next bytes
IsLineAfter (after.Ends format) bytes = bytes ≡ first_line format

-- every input that begins with these bytes is refused so for its first line
abbrev pub IsDecidedLine : List ℕ → Refusal → Type 0
IsDecidedLine bytes refusal = (more : List ℕ) → first_holding (line_refusals (bytes ++ more)) ≡ Some refusal

-- a piece that follows these bytes ends the line of this format, and the rest follows
pub record EndsLine (bytes piece : List ℕ) (format : Format) (rest : List ℕ) : Type 0 where
  pub last : List ℕ
  pub whole : piece ≡ last ++ rest
  pub line : bytes ++ last ≡ first_line format
