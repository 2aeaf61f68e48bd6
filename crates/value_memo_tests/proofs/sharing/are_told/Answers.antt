use Rattle.std.proofs.Common.{[], ◌∷◌, refl, sym, subst}
use Rattle.value_memo.specs.SeenValue.{AsksOnly, MayAsk}
use Rattle.value_memo.proofs.Callers.{AsksOnly-answered, AsksOnly-nothing_seen, MayAsk-nothing_seen, MayAsk-value}
use Rattle.value_memo_tests.proofs.Texts.{two_texts}
use Rattle.value_memo_tests.proofs.sharing.are_told.Goals as goal

pub asks_twice-requires-clause-text : goal.asks_twice-requires-clause-text
asks_twice-requires-clause-text c =
    let text = 47 ∷ 97 ∷ 58 ∷ 49 ∷ [] in
    subst (λ seen. MayAsk seen 0 text) (sym c.requires.first) (MayAsk-nothing_seen c.args.memo.now 0 text)

pub asks-requires-clause-text : goal.asks-requires-clause-text
asks-requires-clause-text c =
    let first = c.args.first.now in let asked = c.asks_twice.new.seen in
    let only = subst (AsksOnly two_texts) (sym c.requires.first) (AsksOnly-nothing_seen two_texts c.args.memo.now) in
    let text = 47 ∷ 97 ∷ 58 ∷ 49 ∷ [] in
    let now = AsksOnly-answered two_texts first 0 text asked only refl c.in_ok-is_read.ensures in
    MayAsk-value two_texts asked 1 (120 ∷ []) now refl
