use Rattle.std.proofs.Common.{arith, subst}
use Rattle.branch_answer.specs.HeldRevisions.{history_mark}
use Rattle.branch_answer.specs.KeptHoldings.{AreMarked, mark_of}
use Rattle.branch_answer.specs.declared.holding.Holding.TheVariants.{InHistory}
use Rattle.branch_answer.proofs.HeldHistory.{listed-history_mark}
use Rattle.branch_answer.proofs.Marks.{AreMarked-same}
use Rattle.branch_answer.proofs.held_revisions.mark_history.Goals as goal

pub returns : goal.returns
returns c =
    let old = c.args.holdings.now in
    let revs = c.in_ok-revs.revs.items in
    let within = c.requires.within in
    AreMarked-same old c.mark.new.self (mark_of revs (λ _. InHistory)) (history_mark c.args.repo.now c.args.at.now)
    (subst (λ all. AreMarked old c.mark.new.self (mark_of all (λ _. InHistory))) c.deref.ensures.value c.mark.ensures)
    (λ each among. listed-history_mark c.args.repo.now c.args.at.now c.args.range revs c.in_ok-revs.ensures each
    (omega (arith, among.from, within.first)) (omega (arith, among.from, among.below, within.last)))
