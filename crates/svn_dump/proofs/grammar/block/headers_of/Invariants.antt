use Rattle.svn_dump.proofs.Common.{length, BeginsWithLines}
use Rattle.svn_dump.proofs.grammar.block.headers_of.Given as goal

abbrev pub invariant-loop-line : goal.invariant-loop-line
invariant-loop-line l = BeginsWithLines l.bytes l.headers l.rest

abbrev pub decreases-loop-line : goal.decreases-loop-line
decreases-loop-line l = length l.rest
