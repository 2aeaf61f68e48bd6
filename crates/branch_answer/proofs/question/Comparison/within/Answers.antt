use Rattle.std.proofs.Common.{◌∙◌, ◌∷◌, ap, sym}
use Rattle.query_answer.specs.Query.{is_tab}
use Rattle.query_answer.proofs.Queries.{one_field, slice_split-some, split-cut, two_fields}
use Rattle.branch_answer.specs.Question.{comparison_in, comparison_within}
use Rattle.branch_answer.proofs.question.Comparison.within.Goals as goal

pub returns-in_default : goal.returns-in_default
returns-in_default c =
    let one = c.args.one.now in
    let other = c.args.other.now in
    c.in_range.ensures
    ∙ ap (comparison_in one other c.args.fields.now) c.as_slice.ensures
    ∙ sym (ap (comparison_within one other) (one_field c.in_default.ensures))

pub returns-in-None : goal.returns-in-None
returns-in-None c = c.in_range-in-None.ensures ∙ sym (ap (comparison_within c.args.one.now c.args.other.now) (two_fields c.in-Some.ensures c.in-None.ensures))

pub returns-in-Some-split_at_byte : goal.returns-in-Some-split_at_byte
returns-in-Some-split_at_byte c =
    let (next, rest, same) = slice_split-some is_tab c.in-Some-split_at_byte.field-0.1.now in
    sym (ap (comparison_within c.args.one.now c.args.other.now)
    (split-cut c.in-Some.ensures
    ∙ ap (λ all. c.in-Some.range.now ∷ all) (split-cut c.in-Some-split_at_byte.ensures ∙ ap (λ all. c.in-Some-split_at_byte.field-0.0.now ∷ all) same)))
