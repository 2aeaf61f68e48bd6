use Rattle.svn_dump.proofs.Common.{◌≡◌, ◌≤◌, ◌++◌, List, ℕ, length, IsWholeHistory, HasReadAll, IsReadAs, Reader}
use Rattle.svn_dump.specs.Growth.{GrowsTo}
use Rattle.svn_dump.specs.declared.pieces.reader.Progress.TheVariants.{Blocks}
use Rattle.svn_dump.proofs.pieces.reader.Reader.read.Given as goal

-- the blocks so far are read, and no part is in progress
pub record IsBetween (first reader : Reader) (end : ℕ) (piece rest : List ℕ) : Type 0 where
  pub within : length rest ≤ length piece
  pub between : reader.progress ≡ Blocks
  pub keeps : IsWholeHistory first.draft → IsWholeHistory reader.draft
  pub grows : GrowsTo first.draft reader.draft
  pub reads : (bytes : List ℕ) → HasReadAll first bytes → end ≡ length (bytes ++ piece) → (done : List ℕ) × (piece ≡ done ++ rest) × IsReadAs reader.format (bytes ++ done) reader.draft

abbrev pub invariant-loop-block : goal.invariant-loop-block
invariant-loop-block l = IsBetween l.fn.self l.self l.end l.piece l.rest

abbrev pub decreases-loop-block : goal.decreases-loop-block
decreases-loop-block l = length l.rest
