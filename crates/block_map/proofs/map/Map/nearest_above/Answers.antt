use Rattle.block_map.proofs.Common.{◌≡◌, Option, None, Some, refl, sym, ◌∙◌, look_in}
use Rattle.block_map.proofs.NearestFound.{HasNoneBelow-parent, HasNoneBelow-path, IsNearestOrNone-there}
use Rattle.block_map.proofs.map.Map.nearest_above.Goals as goal

none-from : {X : Type 0} (o : Option X) → ((x : X) → o ≡ Some x → ⊥) → o ≡ None
none-from None never = refl
none-from (Some x) never = absurd (never x refl)

pub loop-mi-init : goal.loop-mi-init
loop-mi-init c = HasNoneBelow-path (look_in c.args.self.now c.args.tick) c.args.path.now c.args.entry c.requires.entry

pub loop-mi-preserved : goal.loop-mi-preserved
loop-mi-preserved c =
    HasNoneBelow-parent (look_in c.args.self.now c.args.tick) c.args.path.now c.loop-mi.above.now c.loop-mi.entry c.loop-mi.invariant
    c.in-Some-split_last.parent.now c.in-Some-split_last.field-0-0.now c.in_ok-entry.entry
    (sym c.mergeinfo.ensures ∙ none-from c.mergeinfo.result c.in_default.not-Some) c.in-Some-split_last.ensures.cases.0 c.in_ok-entry.ensures

pub returns-in-Some : goal.returns-in-Some
returns-in-Some c =
    IsNearestOrNone-there (look_in c.args.self.now c.args.tick) c.args.path.now c.loop-mi.above.now c.loop-mi.entry c.loop-mi.invariant
    c.in-Some.mi (sym c.mergeinfo.ensures ∙ c.in-Some.is)
