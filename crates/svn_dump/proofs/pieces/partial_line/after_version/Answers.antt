use Rattle.svn_dump.proofs.PartialLines.{version-more}
use Rattle.svn_dump.proofs.pieces.partial_line.after_version.Goals as goal

pub returns-else-byte-eq10 : goal.returns-else-byte-eq10
returns-else-byte-eq10 c = version-more c.args.format c.args.byte c.if-byte-eq10.false
