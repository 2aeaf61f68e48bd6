use Rattle.svn_dump.proofs.Feeds.{IsRefusal-decided, decided-refused}
use Rattle.svn_dump.proofs.FirstRefusals.{exactly, one_history}
use Rattle.svn_dump.proofs.Sections.{section_of-both}
use Rattle.svn_dump.proofs.feed.Feed.pause.Goals as goal

pub returns-in-Some-clause-refused : goal.returns-in-Some-clause-refused
returns-in-Some-clause-refused c = λ bytes has. IsRefusal-decided bytes c.in-Some.error (decided-refused c.args.self c.in-Some.error (rw (← c.self.view_is) c.in-Some.is) bytes has)

pub returns-in-Some-clause-exactly : goal.returns-in-Some-clause-exactly
returns-in-Some-clause-exactly c = exactly

pub returns-in-Some-clause-one : goal.returns-in-Some-clause-one
returns-in-Some-clause-one c = one_history

pub returns-in-Some-clause-sections : goal.returns-in-Some-clause-sections
returns-in-Some-clause-sections c = section_of-both

pub returns-in-None-clause-exactly : goal.returns-in-None-clause-exactly
returns-in-None-clause-exactly c = exactly

pub returns-in-None-clause-one : goal.returns-in-None-clause-one
returns-in-None-clause-one c = one_history

pub returns-in-None-clause-sections : goal.returns-in-None-clause-sections
returns-in-None-clause-sections c = section_of-both
