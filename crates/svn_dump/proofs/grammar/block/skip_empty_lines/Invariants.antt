use Rattle.svn_dump.proofs.Common.{◌≡◌, length, without_empty_lines}
use Rattle.svn_dump.proofs.grammar.block.skip_empty_lines.Given as goal

abbrev pub invariant-loop-rest : goal.invariant-loop-rest
invariant-loop-rest l = without_empty_lines l.rest ≡ without_empty_lines l.bytes

abbrev pub decreases-loop-rest : goal.decreases-loop-rest
decreases-loop-rest l = length l.rest
