use Rattle.std.proofs.Common.{sym, subst}
use Rattle.value_memo.specs.SeenValue.{MayAsk}
use Rattle.value_memo.proofs.Callers.{MayAsk-nothing_seen}
use Rattle.value_memo_tests.proofs.refused_growths.is_told.Goals as goal

pub asks_again-requires-clause-text : goal.asks_again-requires-clause-text
asks_again-requires-clause-text c =
    let text = c.args.text.now in
    subst (λ seen. MayAsk seen 0 text) (sym c.in_ok-seen.ensures) (MayAsk-nothing_seen c.args.memo.now 0 text)
