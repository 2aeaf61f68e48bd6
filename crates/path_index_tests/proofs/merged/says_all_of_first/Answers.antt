use Rattle.path_index_tests.proofs.MergedIndexes.{IsThere-first}
use Rattle.path_index_tests.proofs.merged.says_all_of_first.Goals as goal

pub has_segments-requires-clause-there : goal.has_segments-requires-clause-there
has_segments-requires-clause-there c = IsThere-first c.args.index.now c.requires

pub finds_trunk-requires-clause-there : goal.finds_trunk-requires-clause-there
finds_trunk-requires-clause-there c = IsThere-first c.args.index.now c.requires
