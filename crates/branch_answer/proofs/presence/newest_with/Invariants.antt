use Rattle.branch_answer.proofs.Halves.{IsDownTo}
use Rattle.branch_answer.proofs.presence.newest_with.Given as goal

abbrev pub invariant-revisions : goal.invariant-revisions
invariant-revisions l = IsDownTo l.fn.repo l.fn.path l.fn.rev l.at

abbrev pub decreases-revisions : goal.decreases-revisions
decreases-revisions l = l.at
