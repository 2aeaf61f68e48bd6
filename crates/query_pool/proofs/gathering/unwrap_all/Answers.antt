use Rattle.query_pool.proofs.Common.{None, Some, ◌∷◌, ◌++◌, length, sym, ap, ◌∙◌, length-map}
use Rattle.query_pool.proofs.Unwrapping.{IsFirstEmpty-after}
use Rattle.query_pool.proofs.gathering.unwrap_all.Goals as goal

pub returns-in-None-slot-clause-error : goal.returns-in-None-slot-clause-error
returns-in-None-slot-clause-error g c =
    let rest = c.next.new.self.rest.items in
    let before = c.loop-slot.invariant in
    IsFirstEmpty-after c.loop-slot.ordered.items rest c.args.slots.items c.loop-slot.place
    (ap (λ front. front ++ None ∷ rest) (sym before.taken) ∙ ap (λ slot. c.loop-slot.yielded ++ slot ∷ rest) (sym c.in-None-slot.is) ∙ ap (λ more. c.loop-slot.yielded ++ more) (sym c.in-Some.ensures.steps.0) ∙ before.whole)
    (before.place ∙ ap length before.taken ∙ length-map c.loop-slot.ordered.items Some)
