use Rattle.svn_dump.proofs.PartialLines.{refused-name_cut, refused-other_cut, refused-short, refused-version_cut}
use Rattle.svn_dump.proofs.pieces.partial_line.PartialLine.refusal.Goals as goal

pub returns-in-Front : goal.returns-in-Front
returns-in-Front c = λ bytes is. refused-short c.in-Front.count bytes (rw c.in-Front.is at is) c.if-count-lt28.true

pub returns-in-Front-2 : goal.returns-in-Front-2
returns-in-Front-2 c = λ bytes is. refused-name_cut c.in-Front.count bytes (rw c.in-Front.is at is) c.if-count-lt28.false

pub returns-in-Version : goal.returns-in-Version
returns-in-Version c = λ bytes is. refused-version_cut c.in-Version.field-0 bytes (rw c.in-Version.is at is)

pub returns-in-OtherVersion : goal.returns-in-OtherVersion
returns-in-OtherVersion c = λ bytes is. refused-other_cut bytes (rw c.in-OtherVersion.is at is)
