use Rattle.std.proofs.Common.{◌≡◌, ◌∙◌, ◌++◌, ap, sym, subst, codes, decimal, length}
use Rattle.std.specs.Prelude.{OnOk}
use Rattle.std.proofs.lemmas.Bool.{ltb-false, ltb-true}
use Rattle.svn_text.specs.Line.{line_text}
use Rattle.branch_answer.specs.KeptHolding.{holding_view}
use Rattle.branch_answer.specs.KeptHoldings.{held_text, texts_of}
use Rattle.branch_answer.proofs.HeldTexts.{holding_view-Below, holding_view-past}
use Rattle.branch_answer.proofs.holdings.append_held.Goals as goal

pub returns-in-Some : goal.returns-in-Some
returns-in-Some c =
    let names = c.args.names.now in
    let below = c.args.below.now in
    let path = c.in-Some.path.now in
    let found = c.in-Some.ensures.lookup in
    subst (λ shown. OnOk c.append_below.result (c.append_below.new.out.items ≡ c.args.out.now.items ++ held_text c.args.rev shown))
    (sym (ap (holding_view (texts_of names below)) c.in-Below.is ∙ holding_view-Below names below c.in-Below.index path (ltb-true c.in-Below.index (length below) (sym found.0)) found.1))
    c.append_below.ensures

pub returns-in-None : goal.returns-in-None
returns-in-None c =
    let names = c.args.names.now in
    let below = c.args.below.now in
    let found = c.in-None.ensures.lookup in
    subst (λ text. OnOk c.append_line.result (c.append_line.new.out.items ≡ c.args.out.now.items ++ text))
    (ap (λ word. line_text (decimal c.args.rev ++ codes " " ++ word)) c.as_slice.ensures
    ∙ sym (ap (held_text c.args.rev) (ap (holding_view (texts_of names below)) c.in-Below.is ∙ holding_view-past names below c.in-Below.index (ltb-false c.in-Below.index (length below) (sym found.0)))))
    c.append_line.ensures
