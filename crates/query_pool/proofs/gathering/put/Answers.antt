use Rattle.query_pool.proofs.Common.{◌≡◌, true, false, Option, None, Some, refl, ap, ◌∙◌, arith, slice_get_read}
use Rattle.std.specs.Option.{is_some}
use Rattle.query_pool.proofs.Adding.{Adds-put, IsAddError-double, IsAddError-stranger}
use Rattle.query_pool.proofs.gathering.put.Goals as goal

full : {X : Type 0} (slot : Option X) → true ≡ is_some slot → (found : X) × (slot ≡ Some found)
full None test = cc
full (Some found) test = (found, refl)

empty : {X : Type 0} (slot : Option X) → false ≡ is_some slot → slot ≡ None
empty None test = refl
empty (Some found) test = cc

pub returns-then-len-at-clause-error : goal.returns-then-len-at-clause-error
returns-then-len-at-clause-error g c =
    IsAddError-stranger c.args.slots.now.items c.args.place c.args.found (omega (arith, c.len.ensures, c.if-len-at.true, c.args.slots.now.ok.0))

pub returns-then-is_some-clause-error : goal.returns-then-is_some-clause-error
returns-then-is_some-clause-error g c =
    let stands = slice_get_read c.args.slots.now.items _ c.args.place c.index.result.now c.args.slots.now.ok.0 (omega (arith, c.len.ensures, c.if-len-at.false)) c.index.ensures in
    let (other, is) = full c.index.result.now c.if-is_some.ensures in
    IsAddError-double c.args.slots.now.items c.args.place c.args.found other (stands ∙ ap Some is)

pub returns-clause-ok : goal.returns-clause-ok
returns-clause-ok g c =
    let stands = slice_get_read c.args.slots.now.items _ c.args.place c.index.result.now c.args.slots.now.ok.0 (omega (arith, c.len.ensures, c.if-len-at.false)) c.index.ensures in
    Adds-put c.args.slots.now.items c.args.place c.args.found (stands ∙ ap Some (empty c.index.result.now c.if-is_some.ensures))
