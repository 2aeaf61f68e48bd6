use Rattle.std.proofs.Common.{◌≡◌, ◌++◌, take}
use Rattle.svn_path.specs.Components.{parts_text}
use Rattle.svn_path.specs.Path.{components_of}
use Rattle.svn_path.proofs.path.append_parts.Given as goal

abbrev pub invariant-loop-id : goal.invariant-loop-id
invariant-loop-id l = record {
  written : l.out.items ≡ l.initial.out.items ++ parts_text (components_of l.names (take l.id-index l.parts));
}
