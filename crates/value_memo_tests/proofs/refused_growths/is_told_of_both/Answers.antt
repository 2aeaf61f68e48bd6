use Rattle.std.proofs.Common.{[], ◌∷◌, refl, sym, subst}
use Rattle.value_memo.specs.SeenValue.{AsksOnly, MayAsk}
use Rattle.value_memo.proofs.Callers.{AsksOnly-answered, AsksOnly-nothing_seen, MayAsk-nothing_seen, MayAsk-value}
use Rattle.value_memo_tests.proofs.Texts.{two_texts}
use Rattle.value_memo_tests.proofs.refused_growths.is_told_of_both.Goals as goal

pub asks_again-requires-clause-text : goal.asks_again-requires-clause-text
asks_again-requires-clause-text c =
    let text = 47 ∷ 97 ∷ 58 ∷ 49 ∷ [] in
    subst (λ seen. MayAsk seen 0 text) (sym c.in_ok-seen.ensures) (MayAsk-nothing_seen c.args.memo.now 0 text)

pub asks_again-requires-2-clause-text : goal.asks_again-requires-2-clause-text
asks_again-requires-2-clause-text c =
    let first = c.in_ok-seen.seen in let asked = c.asks_again.new.seen in
    let only = subst (AsksOnly two_texts) (sym c.in_ok-seen.ensures) (AsksOnly-nothing_seen two_texts c.args.memo.now) in
    MayAsk-value two_texts asked 1 (120 ∷ []) (AsksOnly-answered two_texts first 0 (47 ∷ 97 ∷ 58 ∷ 49 ∷ []) asked only refl c.in_ok-is_good.ensures) refl
