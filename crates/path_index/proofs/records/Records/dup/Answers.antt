use Rattle.path_index.proofs.Common.{◌∙◌}
use Rattle.path_index.proofs.records.Records.dup.Goals as goal

pub invariant_of-result : goal.invariant_of-result
invariant_of-result c =
    rw (c.dup.ensures, c.in_ok-from_slice.ensures.items ∙ c.as_slice.ensures.value, c.in_ok-dup_all.ensures ∙ c.as_slice-2.ensures.value) c.self.invariant
