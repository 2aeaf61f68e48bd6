use Rattle.std.proofs.Common.{◌++◌, List, ap₂, ◌∙◌, take-append-drop}
use Rattle.std.proofs.lemmas.Result.{IfOk-weaker}
use Rattle.svn_dump.specs.declared.record.NodeRecord.{NodeRecord}
use Rattle.path_index.specs.Index.{IndexValue}
use Rattle.query_answer_tests.proofs.in_parts.joined.Goals as goal

pub returns-clause-records : goal.returns-clause-records
returns-clause-records c =
    let all = c.args.records.now in
    let front = c.split_at.ensures.front in
    let back = c.in_ok-later.ensures.records ∙ c.split_at.ensures.back in
    IfOk-weaker {X = IndexValue} c.joined_index-joined.result _ _
    (λ x same. same ∙ ap₂ (λ (f b : List NodeRecord). f ++ b) front back ∙ take-append-drop c.args.count all)
    c.joined_index-joined.ensures.records
