-- The value of mergeinfo of which there are only the lines.
use Rattle.std.specs.Prelude.{ℕ, Option, Some, None}
use Rattle.std.specs.Global.{Vec}
use Rattle.std.specs.declared.snapshot.Snapshot.{Snapshot}
use Rattle.merge_info.specs.CanonicalValue.{inherited_value}
use Rattle.merge_info.specs.Value.{MergeInfoValue}

-- a value itself, or what is inherited of it, given what follows the path that has it
abbrev pub printed_value : Snapshot MergeInfoValue → Option (Snapshot (Vec ℕ)) → MergeInfoValue
printed_value value None = value.value
printed_value value (Some rest) = inherited_value rest.value.items value.value
