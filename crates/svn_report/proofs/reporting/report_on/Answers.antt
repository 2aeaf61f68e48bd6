use Rattle.svn_report.proofs.Common.{ap, ◌∙◌, IfOk-weaker, IfErr-weaker, err_from_is_err_and, history_in_bytes, answers}
use Rattle.svn_report.proofs.Reports.{IsHistoryError-load}
use Rattle.svn_report.proofs.reporting.report_on.Goals as goal

pub returns-in_err-repo-clause-error : goal.returns-in_err-repo-clause-error
returns-in_err-repo-clause-error g c =
    let told = err_from_is_err_and c.from_residual.result c.from_residual.ensures.1 in
    rw (told.1, told.2) (IsHistoryError-load c.args.dump _ c.in_err-repo.ensures.faulty)

pub returns-clause-ok : goal.returns-clause-ok
returns-clause-ok g c =
    IfOk-weaker c.answered-answers.result _ _
    (λ report is. record { lawful = c.in_ok-repo.ensures.lawful; answered = is ∙ ap (λ dump. answers (history_in_bytes dump) c.args.queries.now) c.in_ok-repo.ensures.repo })
    c.answered-answers.ensures.ok

pub returns-clause-error : goal.returns-clause-error
returns-clause-error g c = IfErr-weaker c.answered-answers.result _ _ (λ e is. rw is tt) c.answered-answers.ensures.error
