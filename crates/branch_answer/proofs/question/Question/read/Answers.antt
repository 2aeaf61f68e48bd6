use Rattle.std.proofs.Common.{rules}
use Rattle.query_answer.proofs.Queries.{one_field, split-cut}
use Rattle.branch_answer.proofs.question.Question.read.Goals as goal

pub returns-else-eq : goal.returns-else-eq
returns-else-eq c = rw (one_field c.in_default.ensures) (search rules)

pub returns-else-eq-2 : goal.returns-else-eq-2
returns-else-eq-2 c = rw (split-cut c.in-Some.ensures) (search rules)
