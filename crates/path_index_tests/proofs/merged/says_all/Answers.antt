use Rattle.path_index_tests.proofs.MergedIndexes.{IsThere-all}
use Rattle.path_index_tests.proofs.merged.says_all.Goals as goal

pub has_segments-requires-clause-there : goal.has_segments-requires-clause-there
has_segments-requires-clause-there c = IsThere-all c.args.index.now c.requires

pub finds_trunk-requires-clause-there : goal.finds_trunk-requires-clause-there
finds_trunk-requires-clause-there c = IsThere-all c.args.index.now c.requires
