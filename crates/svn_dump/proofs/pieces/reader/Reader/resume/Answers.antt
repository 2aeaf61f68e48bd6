use Rattle.svn_dump.proofs.Common.{refl}
use Rattle.svn_dump.proofs.Readers.{IfErr-body}
use Rattle.svn_dump.proofs.Growth.{GrowsTo_same}
use Rattle.svn_dump.proofs.pieces.reader.Reader.resume.Goals as goal

pub returns-in-Body-clause-refused : goal.returns-in-Body-clause-refused
returns-in-Body-clause-refused c =
    IfErr-body c.args.self.now _ c.in-Body.header c.in-Body.body c.args.piece.now c.read_body.new.self.at c.read_body.result c.in-Body.ensures.value refl refl refl c.read_body.ensures.refused

pub returns-in-Blocks-clause-grows : goal.returns-in-Blocks-clause-grows
returns-in-Blocks-clause-grows c = GrowsTo_same c.args.self.now.draft
