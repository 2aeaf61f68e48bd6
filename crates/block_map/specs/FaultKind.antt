-- The faults of records as they are reported.
use Rattle.std.specs.Prelude.{ℕ, List, codes}
use Rattle.svn_dump.specs.Fault as fault
use Rattle.svn_dump.specs.Fault.{missing, exists, no_parent, no_source}
use Rattle.block_map.specs.declared.fault.Fault.{Fault}
use Rattle.block_map.specs.declared.fault.FaultKind.{FaultKind}
use Rattle.block_map.specs.declared.fault.FaultKind.TheVariants.{NoParent, Exists, Missing, NoSource}

abbrev pub kind_view : FaultKind → fault.Fault
kind_view NoParent = no_parent
kind_view Exists = exists
kind_view Missing = missing
kind_view NoSource = no_source

-- the number of the record, and its first fault
abbrev pub fault_view : Fault → ℕ × fault.Fault
fault_view fault = (fault.number, kind_view fault.kind)

abbrev pub fault_number : FaultKind → ℕ
fault_number NoParent = 16
fault_number Exists = 17
fault_number Missing = 18
fault_number NoSource = 19

abbrev pub fault_name_of : FaultKind → List ℕ
fault_name_of NoParent = codes "NoParent"
fault_name_of Exists = codes "Exists"
fault_name_of Missing = codes "Missing"
fault_name_of NoSource = codes "NoSource"
