use Rattle.merge_info.proofs.Common.{CutsFirst-IsCutAt, slice_split-cut, slice_split-uncut}
use Rattle.merge_info.proofs.field.first_field.Goals as goal

pub returns-in-None : goal.returns-in-None
returns-in-None c = slice_split-uncut _ _ c.in-None.ensures

pub returns-in-Some : goal.returns-in-Some
returns-in-Some c = slice_split-cut _ _ _ _ (CutsFirst-IsCutAt c.args.byte c.args.bytes.now _ _ c.in-Some.ensures)
