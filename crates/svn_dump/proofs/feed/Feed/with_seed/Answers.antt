use Rattle.svn_dump.proofs.Common.{[]}
use Rattle.svn_dump.proofs.Undecided.{IsUndecided-read}
use Rattle.svn_dump.proofs.feed.Feed.with_seed.Goals as goal

pub returns-clause-undecided : goal.returns-clause-undecided
returns-clause-undecided c = IsUndecided-read c.new.result [] c.new.ensures.read
