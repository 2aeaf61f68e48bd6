use Rattle.svn_dump.proofs.Common.{[], sym, ap, ◌∙◌, append-nil, front_refusals, body_length_from_headers, first_holding}
use Rattle.svn_dump.proofs.PartialHeaders.{refused-front_cut, refused-front_length, values-front}
use Rattle.svn_dump.proofs.pieces.partial_header.PartialHeader.refusal.Goals as goal

pub returns-in-Err : goal.returns-in-Err
returns-in-Err c =
    ap (λ all. first_holding (front_refusals all)) (sym (append-nil c.deref.result.now ∙ c.deref.ensures.value ∙ c.self.view_is)) ∙ c.in-Err.ensures.refused []

pub returns-in-None : goal.returns-in-None
returns-in-None c =
    let front = c.self.invariant.front in
    let values = values-front c.self.inside.bytes.items c.deref.result.now front c.in-Ok.headers c.in-Ok.field-0-1 c.deref.ensures.value c.in-Ok.ensures.headers in
    rw (← c.self.view_is) (refused-front_length c.self.inside.bytes.items front (ap body_length_from_headers (sym values) ∙ sym c.in-None.ensures.whole))

pub returns-in-Some : goal.returns-in-Some
returns-in-Some c =
    let front = c.self.invariant.front in
    let values = values-front c.self.inside.bytes.items c.deref.result.now front c.in-Ok.headers c.in-Ok.field-0-1 c.deref.ensures.value c.in-Ok.ensures.headers in
    rw (← c.self.view_is) (refused-front_cut c.self.inside.bytes.items front c.in-Some.field-0.1 (ap body_length_from_headers (sym values) ∙ sym c.in-Some.ensures.whole))
