use Rattle.std.proofs.Common.{◌≢◌, ◌==◌, List, [], ◌++◌, length, sym, ap, ◌∙◌}
use Rattle.std.proofs.lemmas.Bool.{false≢true}
use Rattle.std.proofs.lemmas.Result.{on_ok_weaker}
use Rattle.svn_path.specs.declared.names.NameId.{NameId}
use Rattle.svn_path.proofs.Printed.{path_text-parts_text}
use Rattle.svn_path.proofs.path.write_parts.Goals as goal

pub returns-else-is_err-clause-ok : goal.returns-else-is_err-clause-ok
returns-else-is_err-clause-ok c =
    let some : c.args.parts.now ≢ [] = λ root. false≢true (c.if-is_empty.ensures ∙ ap (λ (all : List NameId). length all == 0) root) in
    on_ok_weaker c.append_parts-written.result (λ written. written ∙ ap (λ bytes. c.args.out.now.items ++ bytes) (sym (path_text-parts_text c.args.names.now c.args.parts.now some))) c.append_parts-written.ensures.ok
