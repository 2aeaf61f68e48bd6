use Rattle.merge_info.proofs.Common.{◌≡◌, ◌+◌, ◌∷◌, Some, drop, length, ap, sym, ◌∙◌, arith, rules, tests, slice_split, drop_all, length_push, is_comma}
use Rattle.std.proofs.lemmas.Iterator.Consumers.{YieldsList-at, YieldsList-end, YieldsList-turn}
use Rattle.std.proofs.lemmas.Iterator.Splits.{YieldsList-from_slice_split}
use Rattle.merge_info.proofs.Collected.{AreCollected-all, AreCollected-missing, AreCollected-more, AreCollected-none, drop-next}
use Rattle.merge_info.proofs.Elements.{elements_of-none, elements_of-some}
use Rattle.merge_info.proofs.rangelist.read_rangelist.Goals as goal
use Rattle.merge_info.proofs.rangelist.read_rangelist.Goals.{In-Some}

pub returns-then-is_empty-clause-ok : goal.returns-then-is_empty-clause-ok
returns-then-is_empty-clause-ok c =
    elements_of-none c.args.bytes.now c.if-is_empty.ensures ∙ ap Some (sym c.new-runs.ensures.items)

pub loop-part-init : goal.loop-part-init
loop-part-init c = rw c.new-runs.ensures.items (AreCollected-none (elements_of-some c.args.bytes.now c.if-is_empty.ensures))

-- the parts that are left
next : (c : In-Some) → drop (length c.loop-part.yielded) (slice_split is_comma c.args.bytes.now)
    ≡ c.in-Some.part.now ∷ drop (length c.loop-part.yielded + 1) (slice_split is_comma c.args.bytes.now)
next c = drop-next _ _ _ (YieldsList-turn (YieldsList-at c.into_iter-part-iterator.ensures.into_iter_gives
    (YieldsList-from_slice_split _ is_comma c.args.bytes.now c.split-part-items.ensures.rest
    c.split-part-items.ensures.done c.split-part-items.ensures.closure (λ x b q k. search (rules, tests))))
    c.loop-part.yielded _ c.loop-part.yielded_by _ _ c.in-Some.part c.in-Some.is c.next.ensures.steps)

pub returns-in_default-clause-malformed : goal.returns-in_default-clause-malformed
returns-in_default-clause-malformed c = λ _.
    AreCollected-missing c.loop-part.invariant (next (goal.at.returns-in_default-clause-malformed c).In-Some)
    (sym c.in_default.ensures.value)

pub loop-part-preserved : goal.loop-part-preserved
loop-part-preserved c =
    rw (c.in_ok-push.ensures.items, length_push c.loop-part.yielded c.in-Some.part)
    (AreCollected-more c.loop-part.invariant (next (goal.at.loop-part-preserved c).In-Some)
    (sym c.in-Some-element.ensures.value) c.in-Some-element.ensures.run)

pub returns-clause-ok : goal.returns-clause-ok
returns-clause-ok c =
    let parts = slice_split is_comma c.args.bytes.now in
    let end = YieldsList-end (YieldsList-at c.into_iter-part-iterator.ensures.into_iter_gives
    (YieldsList-from_slice_split _ is_comma c.args.bytes.now c.split-part-items.ensures.rest
    c.split-part-items.ensures.done c.split-part-items.ensures.closure (λ x b q k. search (rules, tests))))
    c.loop-part.yielded _ c.loop-part.yielded_by _ _ c.in-None.is c.next.ensures.steps in
    AreCollected-all c.loop-part.invariant (drop_all (length c.loop-part.yielded) parts (omega (arith, end.1)))
