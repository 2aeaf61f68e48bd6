use Rattle.query_answer.proofs.Common.{◌≡◌, Some, true, not, ◌&&◌, is_none, ap, sym, ◌∙◌, same_location, same_name, lent_path, has_in, is_eligible_at, segment_path}
use Rattle.query_answer.proofs.verbs.eligible.is_eligible.Goals as goal

pub returns-then-is_none : goal.returns-then-is_none
returns-then-is_none c = λ located tells.
    let hit = c.args.hit in
    let source = c.in-Some.source.now in
    let elsewhere = not (same_location same_name (located hit.rev) (Some source)) in
    let at : segment_path c.args.segments.now hit.segment ≡ Some source = sym c.path_at.ensures ∙ ap lent_path c.in-Some.is in
    let none : is_none c.has.result ≡ true = ap not (c.is_none.ensures ∙ ap not c.if-is_none.true) in
    ap not (c.is_at.ensures ∙ ap (λ found. same_location same_name found (Some source)) (c.path_in.ensures located tells))
    ∙ sym (ap (is_eligible_at (has_in c.args.ranges.now) located hit) at
    ∙ ap (λ has. is_none has && elsewhere) (sym c.has.ensures) ∙ ap (λ b. b && elsewhere) none)
