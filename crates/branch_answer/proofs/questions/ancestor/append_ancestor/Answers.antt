use Rattle.std.proofs.Common.{◌++◌, ◌∙◌, ◌∷◌, [], ap, append-nil, sym}
use Rattle.std.proofs.lemmas.Result.{err_from_is_err_and}
use Rattle.svn_text.specs.Line.{line_text}
use Rattle.query_answer.specs.Answer.{if_peg_exists, ok_answer}
use Rattle.query_answer.specs.Peg.{peg_view}
use Rattle.query_answer.specs.Repo.{peg_in_bytes, trees_in_bytes}
use Rattle.branch_answer.specs.Ancestor.{ancestor_line, ancestor_of}
use Rattle.branch_answer.proofs.AncestorTold.{IsUntold-other, ancestor_answer-found}
use Rattle.branch_answer.proofs.Refusals.{IsUntold-refused}
use Rattle.branch_answer.proofs.questions.ancestor.append_ancestor.Goals as goal

pub returns-in_err-at-clause-none : goal.returns-in_err-at-clause-none
returns-in_err-at-clause-none c =
    let trees = trees_in_bytes c.args.repo.now in
    let other = peg_view c.args.other.now in
    let told = err_from_is_err_and c.from_residual.result c.from_residual.ensures.1 in
    rw (told.1, told.2) (IsUntold-refused c.args.repo.now c.args.peg.now c.in_err-at.field-0.0
    (λ one. if_peg_exists trees other (ok_answer (ancestor_line (ancestor_of trees one other) ∷ []))) c.in_err-at.ensures.refused)

pub returns-in_err-other_at-clause-none : goal.returns-in_err-other_at-clause-none
returns-in_err-other_at-clause-none c =
    let told = err_from_is_err_and c.from_residual-in_err-other_at.result c.from_residual-in_err-other_at.ensures.1 in
    rw (told.1, told.2) (IsUntold-other c.args.repo.now c.args.peg.now c.args.other.now c.in_ok-at.at c.in_ok-at.ensures.found
    c.in_err-other_at.field-0.0 c.in_err-other_at.ensures.refused)

pub returns-clause-lines : goal.returns-clause-lines
returns-clause-lines c =
    let dump = c.args.repo.now in
    let at = c.in_ok-at.at in
    let other_at = c.in_ok-other_at.other_at in
    let line = ancestor_line (ancestor_of (trees_in_bytes dump) (peg_in_bytes dump at) (peg_in_bytes dump other_at)) in
    record {
      lines = line ∷ [];
      is = ancestor_answer-found dump c.args.peg.now c.args.other.now at c.in_ok-at.ensures.found other_at c.in_ok-other_at.ensures.found;
      text = c.in_ok-append_newest.ensures ∙ ap (λ text. c.args.out.now.items ++ text) (sym (append-nil (line_text line)));
    }
