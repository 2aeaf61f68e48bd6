use Rattle.block_map_tests.proofs.joins.joined.Goals as goal

pub returns-clause-lo : goal.returns-clause-lo
returns-clause-lo c = c.in_ok-join.ensures.joined.begins c.in_ok-join.field-0
