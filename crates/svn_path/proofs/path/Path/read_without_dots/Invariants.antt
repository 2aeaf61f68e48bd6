use Rattle.std.proofs.Common.{◌≡◌, length, take}
use Rattle.svn_path.specs.Components.{parts_of}
use Rattle.svn_path.specs.Names.{with_names}
use Rattle.svn_path.proofs.Reading.{IsRead}
use Rattle.svn_path.proofs.path.Path.read_without_dots.Given as goal

abbrev pub invariant-loop-part : goal.invariant-loop-part
invariant-loop-part l = record {
  read : IsRead l.names (parts_of l.bytes) l.parts.items (parts_of l.rest);
  table : l.names ≡ with_names l.initial.names (take (length l.parts.items) (parts_of l.bytes));
}

abbrev pub decreases-loop-part : goal.decreases-loop-part
decreases-loop-part l = length l.rest
