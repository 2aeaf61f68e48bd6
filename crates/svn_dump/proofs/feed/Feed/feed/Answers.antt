use Rattle.svn_dump.proofs.Common.{◌++◌, refl}
use Rattle.svn_dump.proofs.Feeds.{HasRead-more, HasReadAll-not_refused, counted-more, decided-refused}
use Rattle.svn_dump.proofs.Readers.{IsDecidedError-more}
use Rattle.svn_dump.proofs.Undecided.{IsUndecided-read}
use Rattle.svn_dump.proofs.feed.Feed.feed.Goals as goal

pub returns-in-Some-clause-read : goal.returns-in-Some-clause-read
returns-in-Some-clause-read c = λ before has.
    HasRead-more c.args.self.now c.in-Some.error (rw (← c.self.view_is) c.in-Some.is) before has _ c.args.bytes.now (rw (← c.self.view_is) refl) c.in-Some.is

pub returns-in-Some-clause-decided : goal.returns-in-Some-clause-decided
returns-in-Some-clause-decided c = λ before has.
    IsDecidedError-more before c.args.bytes.now c.in-Some.error (decided-refused c.args.self.now c.in-Some.error (rw (← c.self.view_is) c.in-Some.is) before has)

pub returns-in-Ok-clause-undecided : goal.returns-in-Ok-clause-undecided
returns-in-Ok-clause-undecided c = λ before seen.
    let has = rw (← c.self.view_is) at seen in
    IsUndecided-read c.read.new.self (before ++ c.args.bytes.now)
    (c.in-Ok.ensures.ok before (HasReadAll-not_refused _ c.in_default.is before has) (counted-more _ before c.args.bytes.now has))
