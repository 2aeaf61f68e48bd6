use Rattle.svn_dump.proofs.Common.{◌≡◌, ◌≤◌, ℕ, List, ◌++◌, length, IsPartialLine}
use Rattle.svn_dump.proofs.pieces.partial_line.PartialLine.extend.Given as goal

abbrev pub invariant-loop-rest : goal.invariant-loop-rest
invariant-loop-rest l = (length l.rest ≤ length l.piece) × ((bytes : List ℕ) → IsPartialLine l.initial.self bytes → (done : List ℕ) × (l.piece ≡ done ++ l.rest) × IsPartialLine l.self (bytes ++ done))

abbrev pub decreases-loop-rest : goal.decreases-loop-rest
decreases-loop-rest l = length l.rest
