use Rattle.std.proofs.Common.{[], append-nil, sym, ◌∙◌}
use Rattle.std.proofs.lemmas.Result.{IfOk-weaker}
use Rattle.path_index.specs.Index.{IndexValue}
use Rattle.query_answer_tests.proofs.in_parts.copied.Goals as goal

pub returns-clause-records : goal.returns-clause-records
returns-clause-records c =
    let like = c.in_ok-copied.ensures in
    IfOk-weaker {X = IndexValue} c.after_unit-joined.result _ _
    (λ x same. same ∙ sym (append-nil c.in_ok-copied.copied.records) ∙ like.acts [] ∙ append-nil c.args.index.now.records)
    c.after_unit-joined.ensures.records
