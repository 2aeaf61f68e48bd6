use Rattle.std.proofs.Common.{◌++◌, ◌∙◌, All, ap, flat_map, subst, sym}
use Rattle.std.proofs.lemmas.Result.{err_from_is_err_and}
use Rattle.svn_dump.specs.Tree.{tree_of}
use Rattle.query_answer.specs.Answer.{ok_answer}
use Rattle.query_answer.specs.Repo.{peg_in_bytes, trees_in_bytes}
use Rattle.branch_answer.specs.Explicit.{explicit_lines, explicit_of}
use Rattle.branch_answer.specs.KeptExplicit.{HasOwnText, own_lines}
use Rattle.branch_answer.specs.QuestionAnswer.{lines_text}
use Rattle.branch_answer.proofs.ExplicitTold.{lines_text-explicit}
use Rattle.branch_answer.proofs.Refusals.{IsUntold-refused}
use Rattle.branch_answer.proofs.questions.explicit.append_explicit.Goals as goal

pub returns-in_err-at-clause-none : goal.returns-in_err-at-clause-none
returns-in_err-at-clause-none c =
    let told = err_from_is_err_and c.from_residual.result c.from_residual.ensures.1 in
    rw (told.1, told.2) (IsUntold-refused c.args.repo.now c.args.peg.now c.in_err-at.field-0.0
    (λ peg. ok_answer (explicit_lines (explicit_of (tree_of (trees_in_bytes c.args.repo.now) peg.rev) peg.path))) c.in_err-at.ensures.refused)

pub append_paths-requires-clause-own : goal.append_paths-requires-clause-own
append_paths-requires-clause-own c =
    subst (All (HasOwnText c.args.repo.now c.in_ok-at.at.rev)) (sym c.as_slice.ensures.value) c.in_ok-paths.ensures.own

pub returns-clause-lines : goal.returns-clause-lines
returns-clause-lines c =
    let dump = c.args.repo.now in
    let trees = trees_in_bytes dump in
    let at = c.in_ok-at.at in
    let paths = c.in_ok-paths.paths.items in
    let are = c.in_ok-paths.ensures in
    let old = c.args.out.now.items in
    record {
      lines = explicit_lines (explicit_of (tree_of trees at.rev) (peg_in_bytes dump at).path);
      is = c.in_ok-at.ensures.found.answered (λ peg. ok_answer (explicit_lines (explicit_of (tree_of trees peg.rev) peg.path)));
      text = c.in_ok-append_paths.ensures ∙ ap (λ all. old ++ flat_map (own_lines dump at.rev) all) c.as_slice.ensures.value
          ∙ ap (λ text. old ++ text) (sym (lines_text-explicit dump at.rev paths))
          ∙ ap (λ texts. old ++ lines_text (explicit_lines texts)) (sym are.are);
    }
