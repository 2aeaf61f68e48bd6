use Rattle.std.proofs.Common.{[], ◌∷◌, refl, sym, ap, subst, ◌∙◌}
use Rattle.value_memo.specs.SeenValue.{AsksOnly}
use Rattle.value_memo.proofs.Callers.{AsksOnly-answered, AsksOnly-nothing_seen, MayAsk-value}
use Rattle.value_memo_tests.proofs.Texts.{two_texts}
use Rattle.value_memo_tests.proofs.sharing.is_told_in_turn.Goals as goal

pub loop-init : goal.loop-init
loop-init c =
    let new = c.in_ok-seen.ensures in
    (ap (λ seen. seen.memo) new, subst (AsksOnly two_texts) (sym new) (AsksOnly-nothing_seen two_texts c.args.memo.now))

pub asks-requires-clause-text : goal.asks-requires-clause-text
asks-requires-clause-text c = MayAsk-value two_texts c.loop.seen 0 (47 ∷ 97 ∷ 58 ∷ 49 ∷ []) c.loop.invariant.1 refl

pub asks-requires-in-loop-clause-text : goal.asks-requires-in-loop-clause-text
asks-requires-in-loop-clause-text c =
    let once = c.asks.new.seen in
    let only = AsksOnly-answered two_texts c.loop.seen 0 (47 ∷ 97 ∷ 58 ∷ 49 ∷ []) once c.loop.invariant.1 refl c.in_ok-is_good.ensures in
    MayAsk-value two_texts once 1 (120 ∷ []) only refl

pub loop-preserved : goal.loop-preserved
loop-preserved c =
    let once = c.asks.new.seen in let twice = c.asks-in-loop.new.seen in
    let only = AsksOnly-answered two_texts c.loop.seen 0 (47 ∷ 97 ∷ 58 ∷ 49 ∷ []) once c.loop.invariant.1 refl c.in_ok-is_good.ensures in
    (c.in_ok-asks.ensures.memo ∙ c.in_ok-is_good.ensures.memo ∙ c.loop.invariant.0, AsksOnly-answered two_texts once 1 (120 ∷ []) twice only refl c.in_ok-asks.ensures)
