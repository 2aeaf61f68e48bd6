use Rattle.std.proofs.Common.{◌≡◌, rules}
use Rattle.range_list.specs.Rangelist.{inheritable_runs}
use Rattle.range_list.proofs.Canonical.{IsCanonical-filter, IsInheritablePart-filter}
use Rattle.range_list.proofs.ranges.Ranges.inheritable.Goals as goal

pub invariant_of-result : goal.invariant_of-result
invariant_of-result c =
    let kept : c.in_ok-collect.field-0.items ≡ inheritable_runs c.self.inside.runs.items = search rules in
    rw kept (IsCanonical-filter _ c.self.invariant)

pub returns : goal.returns
returns c =
    let kept : c.in_ok-collect.field-0.items ≡ inheritable_runs c.self.inside.runs.items = search rules in
    rw (kept, ← c.self.view_is) (IsInheritablePart-filter c.self.inside.runs.items)
