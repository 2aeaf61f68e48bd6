use Rattle.svn_dump.proofs.PartialLines.{IfErr-front, IfOk-front, front-next, refused-name}
use Rattle.svn_dump.proofs.pieces.partial_line.after_front.Goals as goal

pub returns-then-is_next-clause-ok : goal.returns-then-is_next-clause-ok
returns-then-is_next-clause-ok c = λ bytes is. front-next c.args.count bytes is c.args.byte c.if-is_next.ensures.0 c.if-is_next.ensures.1

pub returns-then-count-lt28-clause-refused : goal.returns-then-count-lt28-clause-refused
returns-then-count-lt28-clause-refused c = λ bytes is.
    refused-name c.args.count bytes is c.args.byte c.if-count-lt28.true (c.if-is_next.ensures c.if-count-lt28.true)

pub returns-else-count-lt28-clause-refused : goal.returns-else-count-lt28-clause-refused
returns-else-count-lt28-clause-refused c = IfErr-front c.args.count c.args.byte c.if-count-lt28.false c.after_name.result c.after_name.ensures.refused

pub returns-else-count-lt28-clause-ok : goal.returns-else-count-lt28-clause-ok
returns-else-count-lt28-clause-ok c = IfOk-front c.args.count c.args.byte c.if-count-lt28.false c.after_name.result c.after_name.ensures.ok
