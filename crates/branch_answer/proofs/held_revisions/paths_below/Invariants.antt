use Rattle.branch_answer.proofs.PathsBelow.{AreBelowOf}
use Rattle.branch_answer.proofs.held_revisions.paths_below.Given as goal

abbrev pub invariant-loop-path : goal.invariant-loop-path
invariant-loop-path l = AreBelowOf l.repo l.at l.yielded l.path-iterator.rest.items l.below.items
