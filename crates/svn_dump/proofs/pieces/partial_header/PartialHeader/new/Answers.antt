use Rattle.svn_dump.proofs.PartialHeaders.{IsPartialHeader-none}
use Rattle.svn_dump.proofs.pieces.partial_header.PartialHeader.new.Goals as goal

pub invariant_of-result : goal.invariant_of-result
invariant_of-result c = rw c.new.ensures.items (IsPartialHeader-none c.new-2.result c.new-2.ensures)
