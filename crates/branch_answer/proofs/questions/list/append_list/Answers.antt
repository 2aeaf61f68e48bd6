use Rattle.std.proofs.Common.{◌++◌, ◌∙◌, ap, subst}
use Rattle.std.proofs.lemmas.Result.{err_from_is_err_and}
use Rattle.svn_dump.specs.Tree.{tree_of}
use Rattle.query_answer.specs.Answer.{ok_answer}
use Rattle.query_answer.specs.Repo.{peg_in_bytes, trees_in_bytes}
use Rattle.branch_answer.specs.KeptChildren.{AreInOrder, entries_in_bytes}
use Rattle.branch_answer.specs.Listing.{children_text, list_lines}
use Rattle.branch_answer.proofs.Children.{entries_in_bytes-are}
use Rattle.branch_answer.proofs.Refusals.{IsUntold-refused}
use Rattle.branch_answer.proofs.questions.list.append_list.Goals as goal

pub returns-in_err-at-clause-none : goal.returns-in_err-at-clause-none
returns-in_err-at-clause-none c =
    let told = err_from_is_err_and c.from_residual.result c.from_residual.ensures.1 in
    rw (told.1, told.2) (IsUntold-refused c.args.repo.now c.args.peg.now c.in_err-at.field-0.0
    (λ peg. ok_answer (list_lines (tree_of (trees_in_bytes c.args.repo.now) peg.rev) peg.path)) c.in_err-at.ensures.refused)

pub returns-clause-lines : goal.returns-clause-lines
returns-clause-lines c =
    let dump = c.args.repo.now in
    let trees = trees_in_bytes dump in
    let at = c.in_ok-at.at in
    let children = c.in_ok-children.children.items in
    let entries = c.in_ok-entries.entries.items in
    let in_order = subst (λ names. AreInOrder names c.as_slice.result.now entries) c.names.ensures.value c.in_ok-entries.ensures in
    let order = subst (λ all. AreInOrder dump.names all entries) c.as_slice.ensures.value in_order in
    let old = c.args.out.now.items in
    let wrote = c.in_ok-append_lines.ensures ∙ ap (λ all. old ++ children_text (entries_in_bytes all)) c.as_slice-2.ensures.value in
    record {
      lines = list_lines (tree_of trees at.rev) (peg_in_bytes dump at).path;
      is = c.in_ok-at.ensures.found.answered (λ peg. ok_answer (list_lines (tree_of trees peg.rev) peg.path));
      text = wrote ∙ ap (λ all. old ++ children_text all) (entries_in_bytes-are dump at.path at.rev children c.in_ok-children.ensures entries order);
    }
