use Rattle.std.proofs.Common.{length}
use Rattle.svn_path.specs.Components.{parts_of}
use Rattle.svn_path.proofs.Reading.{IsRead}
use Rattle.svn_path.proofs.path.Path.look_up.Given as goal

abbrev pub invariant-loop-part : goal.invariant-loop-part
invariant-loop-part l = IsRead l.names (parts_of l.bytes) l.parts.items (parts_of l.rest)

abbrev pub decreases-loop-part : goal.decreases-loop-part
decreases-loop-part l = length l.rest
