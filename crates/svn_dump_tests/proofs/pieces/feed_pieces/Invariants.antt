use Rattle.std.proofs.Common.{◌≡◌, ◌+◌, length}
use Rattle.svn_dump_tests.proofs.pieces.feed_pieces.Given as goal

abbrev pub invariant-loop-rest : goal.invariant-loop-rest
invariant-loop-rest l = l.feed.count + length l.rest ≡ l.fn.feed.count + length l.bytes

abbrev pub decreases-loop-rest : goal.decreases-loop-rest
decreases-loop-rest l = length l.rest
