use Rattle.std.proofs.Common.{◌≡◌, ◌+◌, ◌≤◌, ◌++◌, drop, length}
use Rattle.branch_answer.specs.KeptHoldings.{holdings_text, texts_of}
use Rattle.branch_answer.proofs.holdings.Holdings.append.Given as goal

abbrev pub invariant-revisions : goal.invariant-revisions
invariant-revisions l =
    (l.left ≤ length l.self.how.items) × (l.out.items ≡ l.initial.out.items ++ holdings_text (texts_of l.names l.below) (l.self.first + l.left) (drop l.left l.self.how.items))

abbrev pub decreases-revisions : goal.decreases-revisions
decreases-revisions l = l.left
