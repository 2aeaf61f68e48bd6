use Rattle.std.proofs.Common.{◌≡◌, subst}
use Rattle.std.proofs.lemmas.Result.{IfOk-weaker}
use Rattle.branch_answer.proofs.ExplicitSorted.{AreExplicitIn-sorted}
use Rattle.branch_answer.specs.TextOrder.{paths_by_text, sorted_by_text}
use Rattle.branch_answer.proofs.explicit.explicit_of.Goals as goal

pub returns : goal.returns
returns c =
    let dump = c.args.repo.now in
    let at = c.args.at.now in
    let found = c.in_ok-found.found.items in
    IfOk-weaker c.in_order.result (λ paths. paths_by_text c.names.result.now paths.items ≡ sorted_by_text (paths_by_text c.names.result.now found)) _
    (λ paths sorted.
    AreExplicitIn-sorted dump at.path at.rev found c.in_ok-found.ensures c.requires.kept paths.items
    (subst (λ names. paths_by_text names paths.items ≡ sorted_by_text (paths_by_text names found)) c.names.ensures.value sorted))
    c.in_order.ensures
