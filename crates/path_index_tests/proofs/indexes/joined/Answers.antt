use Rattle.std.proofs.Common.{◌++◌, [], sym, ap, ◌∙◌, append-nil}
use Rattle.std.proofs.lemmas.Result.{IfOk-weaker}
use Rattle.path_index_tests.proofs.indexes.joined.Goals as goal

pub returns-clause-records : goal.returns-clause-records
returns-clause-records c =
    IfOk-weaker c.join-both.result _ _ (λ both j. sym (append-nil both.records) ∙ j.acts [] ∙ ap (λ rest. c.args.earlier.now.records ++ rest) (append-nil c.args.later.now.records)) c.join-both.ensures

pub returns-clause-first : goal.returns-clause-first
returns-clause-first c = IfOk-weaker c.join-both.result _ _ (λ both j. j.begins both) c.join-both.ensures
