use Rattle.svn_dump.proofs.Common.{ap, ◌∙◌, ◌∷◌, ◌++◌, line_refusals, magic, first_holding}
use Rattle.svn_dump.proofs.PartialLines.{other-version, refused-none}
use Rattle.svn_dump.proofs.pieces.partial_line.after_name.Goals as goal

pub returns-then-byte-eq10-clause-refused : goal.returns-then-byte-eq10-clause-refused
returns-then-byte-eq10-clause-refused c = λ more.
    ap (λ byte. first_holding (line_refusals (magic ++ byte ∷ more))) c.if-byte-eq10.true ∙ refused-none more

pub returns-else-byte-eq10-clause-ok : goal.returns-else-byte-eq10-clause-ok
returns-else-byte-eq10-clause-ok c = other-version c.args.byte c.if-byte-eq50.false c.if-byte-eq51.false c.if-byte-eq10.false
