use Rattle.svn_dump.proofs.Fields.{tag_of-field}
use Rattle.svn_dump.proofs.grammar.field.Field.index.Goals as goal

pub returns : goal.returns
returns c = tag_of-field c.args.self
