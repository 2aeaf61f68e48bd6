use Rattle.std.proofs.Common.{◌∙◌, ◌∷◌, [], All, ap, map, subst, sym}
use Rattle.std.proofs.lemmas.List.{take_all}
use Rattle.std.proofs.lemmas.List.Elements.{All-cons, All-map, All-nil, All-weaker}
use Rattle.svn_path.specs.Path.{IsPathOf}
use Rattle.path_index.specs.Copies.{Copy, copy_view}
use Rattle.path_index.specs.declared.copied.Copied.{Copied}
use Rattle.query_answer.specs.CopiesOf.{IsCopyOf}
use Rattle.branch_answer.proofs.PlacesTaken.{places-of_names}
use Rattle.branch_answer.proofs.descendants.places_of.Goals as goal
use Rattle.branch_answer.specs.KeptDescendants.{places_from}

pub returns-clause-of_names : goal.returns-clause-of_names
returns-clause-of_names c =
    let names = c.args.repo.now.names in
    let at = c.args.at.now in
    let copies = c.copies_in-copies.result.now in
    let to : All (λ (copy : Copy). IsPathOf names copy.to) (map copy_view copies) =
    All-map (λ (copy : Copy). IsPathOf names copy.to) copy_view copies
    (All-weaker (IsCopyOf names) (λ (copied : Copied). IsPathOf names copied.to) (λ copied of. of.to) copies c.copies_in-copies.ensures.of_names) in
    subst (All (IsPathOf names))
    (sym (c.loop-copied.invariant ∙ ap (λ all. places_from at.path at.rev (map copy_view all)) (take_all c.loop-copied.copied-index copies c.loop-copied-test.false)))
    (places-of_names names at.rev (map copy_view copies) (at.path ∷ []) to (All-cons (IsPathOf names) at.path [] c.requires.of_names (All-nil (IsPathOf names))))
