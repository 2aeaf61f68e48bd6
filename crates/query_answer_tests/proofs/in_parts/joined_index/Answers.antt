use Rattle.std.proofs.Common.{◌++◌, List, [], append-nil, ap, sym, ◌∙◌}
use Rattle.std.proofs.lemmas.Result.{IfOk-weaker}
use Rattle.svn_dump.specs.declared.record.NodeRecord.{NodeRecord}
use Rattle.path_index.specs.Index.{IndexValue}
use Rattle.query_answer_tests.proofs.in_parts.joined_index.Goals as goal

pub returns-clause-records : goal.returns-clause-records
returns-clause-records c =
    let later = c.args.later.now.records in
    IfOk-weaker {X = IndexValue} c.join-joined.result _ _
    (λ x j. sym (append-nil x.records) ∙ j.acts [] ∙ ap (λ (f : List NodeRecord). f ++ (later ++ [])) c.in_ok-first.ensures.records ∙ ap (λ (b : List NodeRecord). c.args.records.now ++ b) (append-nil later))
    c.join-joined.ensures

pub returns-clause-first : goal.returns-clause-first
returns-clause-first c =
    IfOk-weaker {X = IndexValue} c.join-joined.result _ _ (λ x j. j.begins x ∙ c.in_ok-first.ensures.first) c.join-joined.ensures
