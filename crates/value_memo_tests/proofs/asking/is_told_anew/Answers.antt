use Rattle.std.proofs.Common.{sym, subst}
use Rattle.value_memo.specs.SeenValue.{MayAsk}
use Rattle.value_memo.proofs.Callers.{MayAsk-nothing_seen}
use Rattle.value_memo_tests.proofs.asking.is_told_anew.Goals as goal

pub asks_twice-requires-clause-text : goal.asks_twice-requires-clause-text
asks_twice-requires-clause-text c =
    let text = c.args.text.now in
    subst (λ seen. MayAsk seen 0 text) (sym c.in_ok-seen.ensures) (MayAsk-nothing_seen c.args.memo.now 0 text)
