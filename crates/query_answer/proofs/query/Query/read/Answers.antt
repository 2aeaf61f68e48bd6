use Rattle.query_answer.proofs.Common.{[], ap, slice_index_or, subst, sym, ◌∙◌, HasPegOf, HasTargetOf, query_of_fields, third_field}
use Rattle.query_answer.proofs.Queries.{four_fields, one_field, query_of-more, three_fields, two_fields}
use Rattle.query_answer.proofs.query.Query.read.Goals as goal

pub returns-in_default-clause-query : goal.returns-in_default-clause-query
returns-in_default-clause-query c = sym (ap query_of_fields (one_field c.in_default.ensures))

pub returns-in_default-split_at_byte-clause-query : goal.returns-in_default-split_at_byte-clause-query
returns-in_default-split_at_byte-clause-query c =
    let fields = two_fields c.in-Some.ensures c.in_default-split_at_byte.ensures in
    c.of_peg.ensures.query ∙ sym (ap query_of_fields fields)

pub returns-in_default-split_at_byte-2-clause-query : goal.returns-in_default-split_at_byte-2-clause-query
returns-in_default-split_at_byte-2-clause-query c =
    let fields =
    three_fields c.in-Some.ensures c.in-Some-split_at_byte.ensures c.in_default-split_at_byte-2.ensures in
    c.of_field.ensures.query ∙ sym (ap query_of_fields fields)

pub returns-in-None-clause-query : goal.returns-in-None-clause-query
returns-in-None-clause-query c =
    let fields =
    four_fields c.in-Some.ensures c.in-Some-split_at_byte.ensures c.in-Some-split_at_byte-2.ensures c.in-None.ensures in
    c.in_range.ensures.query ∙ sym (ap query_of_fields fields)

pub returns-in-Some-split_at_byte-3-clause-query : goal.returns-in-Some-split_at_byte-3-clause-query
returns-in-Some-split_at_byte-3-clause-query c =
    sym (query_of-more c.in-Some.ensures c.in-Some-split_at_byte.ensures c.in-Some-split_at_byte-2.ensures
    c.in-Some-split_at_byte-3.ensures)

pub returns-in_default-split_at_byte-clause-peg : goal.returns-in_default-split_at_byte-clause-peg
returns-in_default-split_at_byte-clause-peg c =
    let fields = two_fields c.in-Some.ensures c.in_default-split_at_byte.ensures in
    subst (λ all. HasPegOf (slice_index_or all 1 []) c.of_peg.result) (sym fields) c.of_peg.ensures.peg

pub returns-in_default-split_at_byte-2-clause-peg : goal.returns-in_default-split_at_byte-2-clause-peg
returns-in_default-split_at_byte-2-clause-peg c =
    let fields =
    three_fields c.in-Some.ensures c.in-Some-split_at_byte.ensures c.in_default-split_at_byte-2.ensures in
    subst (λ all. HasPegOf (slice_index_or all 1 []) c.of_field.result) (sym fields) c.of_field.ensures.peg

pub returns-in-None-clause-peg : goal.returns-in-None-clause-peg
returns-in-None-clause-peg c =
    let fields =
    four_fields c.in-Some.ensures c.in-Some-split_at_byte.ensures c.in-Some-split_at_byte-2.ensures c.in-None.ensures in
    subst (λ all. HasPegOf (slice_index_or all 1 []) c.in_range.result) (sym fields) c.in_range.ensures.peg

pub returns-in_default-split_at_byte-clause-target : goal.returns-in_default-split_at_byte-clause-target
returns-in_default-split_at_byte-clause-target c = c.of_peg.ensures.target (third_field c.args.line.now)

pub returns-in_default-split_at_byte-2-clause-target : goal.returns-in_default-split_at_byte-2-clause-target
returns-in_default-split_at_byte-2-clause-target c =
    let fields =
    three_fields c.in-Some.ensures c.in-Some-split_at_byte.ensures c.in_default-split_at_byte-2.ensures in
    subst (λ all. HasTargetOf (slice_index_or all 2 []) c.of_field.result) (sym fields) c.of_field.ensures.target

pub returns-in-None-clause-target : goal.returns-in-None-clause-target
returns-in-None-clause-target c =
    let fields =
    four_fields c.in-Some.ensures c.in-Some-split_at_byte.ensures c.in-Some-split_at_byte-2.ensures c.in-None.ensures in
    subst (λ all. HasTargetOf (slice_index_or all 2 []) c.in_range.result) (sym fields) c.in_range.ensures.target
