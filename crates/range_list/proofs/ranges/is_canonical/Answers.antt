use Rattle.std.proofs.Common.{rules}
use Rattle.std.proofs.lemmas.Fn.{always_returns_same}
use Rattle.range_list.specs.Rangelist.{is_apart}
use Rattle.range_list.proofs.Canonical.{IsCanonical-tested}
use Rattle.range_list.proofs.ranges.is_canonical.Goals as goal

pub returns : goal.returns
returns c =
    IsCanonical-tested c.args.runs.now c.is_sorted_by.result c.requires
    (c.is_sorted_by.ensures.cases is_apart (always_returns_same _ _ _ (λ a r f k. search rules)))
