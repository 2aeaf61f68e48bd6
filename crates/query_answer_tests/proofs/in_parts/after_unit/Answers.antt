use Rattle.std.proofs.Common.{[], append-nil, sym, ◌∙◌}
use Rattle.std.proofs.lemmas.Result.{IfOk-weaker}
use Rattle.path_index.specs.Index.{IndexValue}
use Rattle.query_answer_tests.proofs.in_parts.after_unit.Goals as goal

pub returns-clause-records : goal.returns-clause-records
returns-clause-records c =
    let unit = c.in_ok-unit.ensures.unit in
    IfOk-weaker {X = IndexValue} c.join-joined.result _ _
    (λ x j. sym (append-nil x.records) ∙ j.acts [] ∙ unit.acts _ ∙ append-nil c.args.index.now.records)
    c.join-joined.ensures

pub returns-clause-first : goal.returns-clause-first
returns-clause-first c =
    let unit = c.in_ok-unit.ensures.unit in
    IfOk-weaker {X = IndexValue} c.join-joined.result _ _ (λ x j. j.begins x ∙ unit.begins) c.join-joined.ensures
