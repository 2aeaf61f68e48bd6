use Rattle.std.proofs.Common.{◌≡◌, ◌++◌, ap, subst, sym}
use Rattle.std.specs.Prelude.{OnOk}
use Rattle.svn_text.specs.Line.{line_text}
use Rattle.branch_answer.specs.QuestionAnswer.{outcome_line}
use Rattle.branch_answer.proofs.questions.distance.append_target.Goals as goal

pub returns-in-Ok-clause-line : goal.returns-in-Ok-clause-line
returns-in-Ok-clause-line c =
    subst (λ text. OnOk c.append_numbers.result (c.append_numbers.new.out.items ≡ c.args.out.now.items ++ text))
    (sym (ap (λ answer. line_text (outcome_line answer)) c.in-Ok.ensures.distance))
    c.append_numbers.ensures

pub returns-in-Err-Refused-clause-line : goal.returns-in-Err-Refused-clause-line
returns-in-Err-Refused-clause-line c =
    let refused = rw c.in-Err-Refused.field-0-is at c.in-Err-Refused.ensures.refused in
    subst (λ text. OnOk c.append_status.result (c.append_status.new.out.items ≡ c.args.out.now.items ++ text))
    (sym (ap (λ answer. line_text (outcome_line answer)) refused))
    c.append_status.ensures
