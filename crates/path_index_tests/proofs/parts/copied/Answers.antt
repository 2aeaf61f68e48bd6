use Rattle.std.proofs.Common.{[], append-nil, sym, ◌∙◌}
use Rattle.std.proofs.lemmas.Result.{IfOk-weaker}
use Rattle.path_index.specs.Index.{IndexValue}
use Rattle.path_index_tests.proofs.parts.copied.Goals as goal

pub returns : goal.returns
returns c =
    let like = c.in_ok-copied.ensures in
    IfOk-weaker {X = IndexValue} c.after_unit-joined.result _ _
    (λ x same. (
      same.0 ∙ sym (append-nil c.in_ok-copied.copied.records) ∙ like.acts [] ∙ append-nil c.args.index.now.records,
      same.1 ∙ like.begins,
    ))
    c.after_unit-joined.ensures
