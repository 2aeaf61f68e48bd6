use Rattle.branch_answer.proofs.DescendantsLaw.{HaveDescendants-dump}
use Rattle.branch_answer.proofs.HoldsLaw.{HoldsByRange-dump}
use Rattle.branch_answer.proofs.LivesLaw.{HaveLives-dump}
use Rattle.branch_answer.proofs.NothingNew.{NewOneWay-dump, NothingIsNew-dump}
use Rattle.branch_answer.proofs.questions.answer_question.Goals as goal

pub returns-in-Ok-clause-lives : goal.returns-in-Ok-clause-lives
returns-in-Ok-clause-lives c = HaveLives-dump c.args.repo.now

pub returns-in-Ok-clause-descendants : goal.returns-in-Ok-clause-descendants
returns-in-Ok-clause-descendants c = HaveDescendants-dump c.args.repo.now

pub returns-in-Ok-clause-holds : goal.returns-in-Ok-clause-holds
returns-in-Ok-clause-holds c = HoldsByRange-dump c.args.repo.now

pub returns-in-Ok-clause-new : goal.returns-in-Ok-clause-new
returns-in-Ok-clause-new c = NothingIsNew-dump c.args.repo.now

pub returns-in-Ok-clause-one_way : goal.returns-in-Ok-clause-one_way
returns-in-Ok-clause-one_way c = NewOneWay-dump c.args.repo.now

pub returns-in-Err-Refused-clause-lives : goal.returns-in-Err-Refused-clause-lives
returns-in-Err-Refused-clause-lives c = HaveLives-dump c.args.repo.now

pub returns-in-Err-Refused-clause-descendants : goal.returns-in-Err-Refused-clause-descendants
returns-in-Err-Refused-clause-descendants c = HaveDescendants-dump c.args.repo.now

pub returns-in-Err-Refused-clause-holds : goal.returns-in-Err-Refused-clause-holds
returns-in-Err-Refused-clause-holds c = HoldsByRange-dump c.args.repo.now

pub returns-in-Err-Refused-clause-new : goal.returns-in-Err-Refused-clause-new
returns-in-Err-Refused-clause-new c = NothingIsNew-dump c.args.repo.now

pub returns-in-Err-Refused-clause-one_way : goal.returns-in-Err-Refused-clause-one_way
returns-in-Err-Refused-clause-one_way c = NewOneWay-dump c.args.repo.now

pub returns-clause-lives : goal.returns-clause-lives
returns-clause-lives c = HaveLives-dump c.args.repo.now

pub returns-clause-descendants : goal.returns-clause-descendants
returns-clause-descendants c = HaveDescendants-dump c.args.repo.now

pub returns-clause-holds : goal.returns-clause-holds
returns-clause-holds c = HoldsByRange-dump c.args.repo.now

pub returns-clause-new : goal.returns-clause-new
returns-clause-new c = NothingIsNew-dump c.args.repo.now

pub returns-clause-one_way : goal.returns-clause-one_way
returns-clause-one_way c = NewOneWay-dump c.args.repo.now
