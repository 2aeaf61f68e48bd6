-- The error of a table of names for one of the table of texts below it.
use Rattle.svn_text.specs.declared.text_table.TextTableError.{TextTableError}
use Rattle.svn_text.specs.declared.text_table.TextTableError.TheVariants as texts
use Rattle.svn_path.specs.declared.names.NamesError.{NamesError}
use Rattle.svn_path.specs.declared.names.NamesError.TheVariants as names

abbrev pub names_error_of : TextTableError → NamesError
names_error_of texts.Full = names.Full
names_error_of texts.Memory = names.Memory
