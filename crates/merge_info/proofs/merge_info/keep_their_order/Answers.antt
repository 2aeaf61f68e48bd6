use Rattle.merge_info.proofs.Common.{rules, is_before_below, Entry}
use Rattle.std.proofs.lemmas.Fn.{always_returns_same}
use Rattle.merge_info.proofs.PathOrder.{KeepTheirOrder-tested}
use Rattle.merge_info.proofs.merge_info.keep_their_order.Goals as goal

pub returns : goal.returns
returns c =
    KeepTheirOrder-tested c.args.entries.now c.is_sorted_by.result c.requires
    (c.is_sorted_by.ensures.cases (λ (a b : Entry). is_before_below a.path.items b.path.items) (always_returns_same _ _ _ (λ a r f k. search rules)))
