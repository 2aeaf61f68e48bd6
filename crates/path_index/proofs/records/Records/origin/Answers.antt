use Rattle.path_index.proofs.Common.{sym, ◌∙◌, same_Some}
use Rattle.path_index.proofs.KeptRecords.{SetsOrigin-copied}
use Rattle.path_index.proofs.RecordEffects.{SetsOrigin-no_copy}
use Rattle.path_index.proofs.records.Records.origin.Goals as goal

pub returns-in_ok-rebase-in-Some : goal.returns-in_ok-rebase-in-Some
returns-in_ok-rebase-in-Some c = λ each at.
    SetsOrigin-copied c.args.self.now c.args.path.now c.args.index c.in-Some.copied.now each c.in-Some.ensures.0 c.in-Some.ensures.1 at
    (rw (same_Some c.requires.each each (sym c.requires.at ∙ at)) at c.requires.sets)
    c.in_ok-rebase-in-Some.field-0 c.in_ok-rebase-in-Some.ensures

pub returns-in-None : goal.returns-in-None
returns-in-None c = λ each at.
    SetsOrigin-no_copy each c.args.path.now
    (λ replace from from_rev mi is. c.in-None.ensures each at (rw is tt))
    (rw (same_Some c.requires.each each (sym c.requires.at ∙ at)) at c.requires.sets)
