use Rattle.query_answer.proofs.query.Query.of_field.Goals as goal

pub returns-then-eq-clause-target : goal.returns-then-eq-clause-target
returns-then-eq-clause-target c = c.of_revision.ensures.target c.args.field.now

pub returns-then-eq-2-clause-target : goal.returns-then-eq-2-clause-target
returns-then-eq-2-clause-target c = c.of_log.ensures.target c.args.field.now
