use Rattle.std.proofs.Common.{◌∙◌, ◌∷◌, ap, sym}
use Rattle.query_answer.specs.Query.{is_tab}
use Rattle.query_answer.proofs.Queries.{one_field, slice_split-some, split-cut, three_fields, two_fields}
use Rattle.branch_answer.specs.Question.{question_of_fields, question_of_more}
use Rattle.branch_answer.proofs.question.Question.of_fields.Goals as goal

pub returns-in_default : goal.returns-in_default
returns-in_default c = sym (ap question_of_fields (one_field c.in_default.ensures))

pub returns-in_default-split_at_byte : goal.returns-in_default-split_at_byte
returns-in_default-split_at_byte c = c.of_peg.ensures ∙ sym (ap question_of_fields (two_fields c.in-Some.ensures c.in_default-split_at_byte.ensures))

pub returns-in-None : goal.returns-in-None
returns-in-None c =
    c.of_field.ensures
    ∙ sym (ap question_of_fields (three_fields c.in-Some.ensures c.in-Some-split_at_byte.ensures c.in-None.ensures))

pub returns-in-Some-split_at_byte-2 : goal.returns-in-Some-split_at_byte-2
returns-in-Some-split_at_byte-2 c =
    let verb = c.in-Some.verb.now in
    let peg = c.in-Some-split_at_byte.peg.now in
    let field = c.in-Some-split_at_byte-2.field.now in
    let (next, fields, same) = slice_split-some is_tab c.in-Some-split_at_byte-2.more.now in
    c.of_more.ensures
    ∙ ap (question_of_more verb peg field) same
    ∙ sym (ap question_of_fields
    (split-cut c.in-Some.ensures
    ∙ ap (λ all. verb ∷ all)
    (split-cut c.in-Some-split_at_byte.ensures ∙ ap (λ all. peg ∷ all) (split-cut c.in-Some-split_at_byte-2.ensures ∙ ap (λ all. field ∷ all) same))))
