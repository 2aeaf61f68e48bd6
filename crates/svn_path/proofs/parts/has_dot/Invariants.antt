use Rattle.std.proofs.Common.{◌≡◌, length}
use Rattle.std.specs.List.{list_any}
use Rattle.svn_path.specs.Components.{parts_of, is_dot}
use Rattle.svn_path.proofs.parts.has_dot.Given as goal

abbrev pub invariant-loop-part : goal.invariant-loop-part
invariant-loop-part l = list_any is_dot (parts_of l.bytes) ≡ list_any is_dot (parts_of l.rest)

abbrev pub decreases-loop-part : goal.decreases-loop-part
decreases-loop-part l = length l.rest
