use Rattle.merge_info.proofs.Common.{◌∙◌, sym}
use Rattle.merge_info.proofs.Elements.{element_of-more, element_of-no_star, element_of-star}
use Rattle.merge_info.proofs.element.element.Goals as goal

pub returns-in-None-clause-value : goal.returns-in-None-clause-value
returns-in-None-clause-value c = c.run.ensures.value ∙ sym (element_of-no_star c.args.bytes.now c.in-None.ensures)

pub returns-in-Some-default-empty-clause-value : goal.returns-in-Some-default-empty-clause-value
returns-in-Some-default-empty-clause-value c =
    c.run-in-Some-default-empty.ensures.value
    ∙ sym (element_of-star c.args.bytes.now c.in-Some-default-empty.range.now c.in-Some-default-empty.field-0-1.now
    c.in-Some-default-empty.ensures c.in-Some-default-empty.len_below)

pub returns-in-Some-clause-value : goal.returns-in-Some-clause-value
returns-in-Some-clause-value c =
    sym (element_of-more c.args.bytes.now c.in-Some.field-0.0.now c.in-Some.field-0.1.now c.in-Some.ensures
    c.in-Some.len_at_least)
