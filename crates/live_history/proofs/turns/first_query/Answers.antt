use Rattle.live_history.proofs.Common.{◌∷◌, [], sym, subst, ◌∙◌, append_assoc, IsPieceLine}
use Rattle.svn_text.proofs.Cuts.{CutsFirst-IsCutAt}
use Rattle.live_history.proofs.ReadAheads.{first_line-one}
use Rattle.live_history.proofs.turns.first_query.Goals as goal

pub returns-in-Some-clause-none : goal.returns-in-Some-clause-none
returns-in-Some-clause-none c = λ (line, rest, first).
    let cut = CutsFirst-IsCutAt 10 c.args.bytes.now c.in_ok-line.line.now c.in_ok-line.rest.now c.in_ok-line.ensures in
    let whole = cut.whole ∙ sym (append_assoc c.in_ok-line.line.now (10 ∷ []) c.in_ok-line.rest.now) in
    let same = first_line-one c.args.bytes.now c.in_ok-line.line.now c.in_ok-line.rest.now line rest whole cut.first first.whole first.is.0 in
    first.is.1 c.in-Some.field-0 (subst (λ each. IsPieceLine each c.in-Some.field-0) same c.in-Some.ensures.piece)
