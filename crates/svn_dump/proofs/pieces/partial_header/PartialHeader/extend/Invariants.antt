use Rattle.svn_dump.proofs.Common.{◌≡◌, ◌++◌, List, ℕ, length}
use Rattle.svn_dump.proofs.pieces.partial_header.PartialHeader.extend.Given as goal

abbrev pub invariant-loop-end : goal.invariant-loop-end
invariant-loop-end l = (done : List ℕ) × (l.piece ≡ done ++ l.rest) × (l.self ≡ l.initial.self ++ done)

abbrev pub decreases-loop-end : goal.decreases-loop-end
decreases-loop-end l = length l.rest
