use Rattle.std.proofs.Common.{subst, sym}
use Rattle.range_list.specs.Rangelist.{IsCanonical}
use Rattle.range_list.proofs.Only.{only_canonical}
use Rattle.range_list.proofs.ranges.Ranges.runs.Goals as goal

pub returns-clause-only : goal.returns-clause-only
returns-clause-only c other canonical same =
    only_canonical other _ canonical (subst IsCanonical (sym c.as_slice.ensures.value) c.self.invariant) same
