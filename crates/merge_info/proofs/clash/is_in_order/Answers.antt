use Rattle.merge_info.proofs.Common.{rules}
use Rattle.std.proofs.lemmas.Fn.{always_returns_same}
use Rattle.merge_info.proofs.Clashes.{IsRisingByFirst-tested}
use Rattle.merge_info.proofs.clash.is_in_order.Goals as goal

pub returns : goal.returns
returns c = IsRisingByFirst-tested c.args.runs.now c.is_sorted_by_key.result (c.is_sorted_by_key.ensures.cases (λ run. run.lo) (always_returns_same _ _ _ (λ a r f k. search rules)))
