use Rattle.std.proofs.Common.{[], append-nil, sym, ◌∙◌}
use Rattle.std.proofs.lemmas.Result.{IfOk-weaker}
use Rattle.path_index.specs.Index.{IndexValue}
use Rattle.path_index_tests.proofs.parts.after_unit.Goals as goal

pub returns : goal.returns
returns c =
    let unit = c.in_ok-unit.ensures.unit in
    IfOk-weaker {X = IndexValue} c.join-joined.result _ _
    (λ x j. (
      sym (append-nil x.records) ∙ j.acts [] ∙ unit.acts _ ∙ append-nil c.args.index.now.records,
      j.begins x ∙ unit.begins,
    ))
    c.join-joined.ensures
