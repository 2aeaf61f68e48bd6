use Rattle.svn_text.proofs.Lines.{Lacks-nowhere, cut}
use Rattle.svn_text.proofs.cut.split_at_byte.Goals as goal

pub returns-in-None : goal.returns-in-None
returns-in-None c = Lacks-nowhere c.args.byte c.args.bytes.now c.in-None.ensures

pub returns-in-Some : goal.returns-in-Some
returns-in-Some c = cut c.args.byte c.args.bytes.now c.in-Some.at c.in-Some.ensures.0 c.in-Some.ensures.1
