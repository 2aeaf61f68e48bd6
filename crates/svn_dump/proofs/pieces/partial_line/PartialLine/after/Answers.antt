use Rattle.svn_dump.proofs.PartialLines.{other-more, refused-other}
use Rattle.svn_dump.proofs.pieces.partial_line.PartialLine.after.Goals as goal

pub returns-in-OtherVersion-clause-refused : goal.returns-in-OtherVersion-clause-refused
returns-in-OtherVersion-clause-refused c = λ bytes is. refused-other bytes (rw c.in-OtherVersion.is at is) c.args.byte c.if-byte-eq10.true

pub returns-in-OtherVersion-2-clause-ok : goal.returns-in-OtherVersion-2-clause-ok
returns-in-OtherVersion-2-clause-ok c = λ bytes is. rw c.in-OtherVersion.is (other-more bytes (rw c.in-OtherVersion.is at is) c.args.byte c.if-byte-eq10.false)
