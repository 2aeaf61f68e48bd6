use Rattle.std.proofs.Common.{◌≡◌, ◌∙◌, ap, sym, ◌++◌, option_map, append-nil}
use Rattle.std.proofs.lemmas.Result.{err_from_is_err_and}
use Rattle.svn_text.specs.Line.{line_text}
use Rattle.query_answer.specs.Answer.{ok_answer}
use Rattle.query_answer.specs.Repo.{peg_in_bytes}
use Rattle.query_answer.specs.Standings.{standing_in, standing_in_bytes}
use Rattle.branch_answer.specs.QuestionAnswer.{entry_line, entry_lines, lines_text}
use Rattle.branch_answer.proofs.Refusals.{IsUntold-refused}
use Rattle.branch_answer.proofs.questions.entry.append_entry.Goals.{in-Some+in_ok-append_line, in_default}
use Rattle.branch_answer.proofs.questions.entry.append_entry.Goals as goal

pub returns-in_err-at-clause-none : goal.returns-in_err-at-clause-none
returns-in_err-at-clause-none c =
    let told = err_from_is_err_and c.from_residual.result c.from_residual.ensures.1 in
    rw (told.1, told.2) (IsUntold-refused c.args.repo.now c.args.peg.now c.in_err-at.field-0.0 (λ peg. ok_answer (entry_lines (standing_in c.args.repo.now peg.rev peg.path))) c.in_err-at.ensures.refused)

pub returns-clause-lines : goal.returns-clause-lines
returns-clause-lines c =
    let dump = c.args.repo.now in
    let found = c.in_ok-entry.field-0 in
    let old = c.args.out.now.items in
    let standing : option_map (standing_in_bytes dump) found ≡ standing_in dump c.in_ok-at.at.rev (peg_in_bytes dump c.in_ok-at.at).path = c.in_ok-entry.ensures in
    record {
      lines = entry_lines (option_map (standing_in_bytes dump) found);
      is = c.in_ok-at.ensures.found.answered (λ peg. ok_answer (entry_lines (standing_in dump peg.rev peg.path))) ∙ ap (λ one. ok_answer (entry_lines one)) (sym standing);
      text = elim c.match-branch-3.branch [
        | in-Some+in_ok-append_line w ↦
            ap (λ out. out.items) w.out-is ∙ w.in_ok-append_line.ensures dump
            ∙ ap (λ text. old ++ text) (sym (append-nil (line_text (entry_line (standing_in_bytes dump w.in-Some.entry)))))
            ∙ ap (λ one. old ++ lines_text (entry_lines (option_map (standing_in_bytes dump) one))) (sym w.in-Some.is)
        | in_default w ↦
            ap (λ out. out.items) w.out-is ∙ sym (append-nil old)
            ∙ ap (λ one. old ++ lines_text (entry_lines (option_map (standing_in_bytes dump) one))) (sym w.in_default.is)
      ];
    }
