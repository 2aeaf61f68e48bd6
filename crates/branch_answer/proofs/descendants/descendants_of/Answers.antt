use Rattle.std.proofs.Common.{◌≡◌, ◌∙◌, All, ap, filter, subst, sym}
use Rattle.std.proofs.lemmas.List.Elements.{All-filter}
use Rattle.std.proofs.lemmas.Result.{IfOk-weaker}
use Rattle.svn_path.specs.Path.{IsPathOf}
use Rattle.branch_answer.proofs.DescendantsSorted.{AreDescendantsIn-sorted}
use Rattle.branch_answer.proofs.descendants.descendants_of.Goals as goal
use Rattle.branch_answer.specs.KeptDescendants.{AreDescendantsIn, is_descendant}
use Rattle.branch_answer.specs.TextOrder.{paths_by_text, sorted_by_text}

pub in_order-requires : goal.in_order-requires
in_order-requires c =
    let dump = c.args.repo.now in
    let test = is_descendant dump c.args.at.now c.args.rev in
    subst (λ names. All (IsPathOf names) c.in_ok-found.found.items) (sym c.names.ensures.value)
    (subst (All (IsPathOf dump.names)) (sym c.in_ok-found.ensures)
    (All-filter test (IsPathOf dump.names) c.in_ok-places.places.keys c.in_ok-places.ensures.of_names))

pub returns : goal.returns
returns c =
    let dump = c.args.repo.now in
    let at = c.args.at.now in
    let rev = c.args.rev in
    let test = is_descendant dump at rev in
    let found = c.in_ok-found.found.items in
    let of : All (IsPathOf dump.names) found =
    subst (All (IsPathOf dump.names)) (sym c.in_ok-found.ensures)
    (All-filter test (IsPathOf dump.names) c.in_ok-places.places.keys c.in_ok-places.ensures.of_names) in
    IfOk-weaker c.in_order.result (λ paths. paths_by_text c.names.result.now paths.items ≡ sorted_by_text (paths_by_text c.names.result.now found))
    (λ paths. AreDescendantsIn dump at rev paths.items)
    (λ paths sorted.
    AreDescendantsIn-sorted dump c.requires.there.kept at rev c.requires.within found (c.in_ok-found.ensures ∙ ap (filter test) c.in_ok-places.ensures.places) of paths.items
    (subst (λ names. paths_by_text names paths.items ≡ sorted_by_text (paths_by_text names found)) c.names.ensures.value sorted))
    c.in_order.ensures
