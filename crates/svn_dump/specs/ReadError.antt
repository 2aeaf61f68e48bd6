-- How the reasons to stop reading are reported.
use Rattle.std.specs.Prelude.{ℕ}
use Rattle.svn_dump.specs.Refusal.{number_of_refusal}
use Rattle.svn_dump.specs.declared.error.DumpError.{DumpError}
use Rattle.svn_dump.specs.declared.error.DumpError.TheVariants as dump
use Rattle.svn_dump.specs.declared.read_error.ReadError.{ReadError}
use Rattle.svn_dump.specs.declared.read_error.ReadError.TheVariants as read
use Rattle.svn_dump.specs.declared.refusal.Refusal.TheVariants.{BadPath, TooLarge}
use Rattle.svn_text.specs.declared.text_table.TextTableError.{TextTableError}
use Rattle.svn_text.specs.declared.text_table.TextTableError.TheVariants as texts
use Rattle.svn_path.specs.declared.path.PathError.{PathError}
use Rattle.svn_path.specs.declared.path.PathError.TheVariants as path

-- the error that is reported where the block in progress begins at this offset
abbrev pub dump_error_at : ℕ → ReadError → DumpError
dump_error_at at (read.Refused refusal) = dump.Refused (number_of_refusal refusal) at
dump_error_at at read.Memory = dump.Memory

-- the error of the reader for one of a path
abbrev pub read_error_of : PathError → ReadError
read_error_of path.Dot = read.Refused BadPath
read_error_of path.Full = read.Refused TooLarge
read_error_of path.Memory = read.Memory

-- the error of the reader for one of a table of texts
abbrev pub read_error_of_table : TextTableError → ReadError
read_error_of_table texts.Full = read.Refused TooLarge
read_error_of_table texts.Memory = read.Memory
