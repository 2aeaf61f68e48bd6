-- The error of a path for a refusal of the table.
use Rattle.svn_path.specs.declared.names.NamesError.{NamesError}
use Rattle.svn_path.specs.declared.names.NamesError.TheVariants as names
use Rattle.svn_path.specs.declared.path.PathError.{PathError}
use Rattle.svn_path.specs.declared.path.PathError.TheVariants as paths

abbrev pub path_error_of : NamesError → PathError
path_error_of names.Full = paths.Full
path_error_of names.Memory = paths.Memory
