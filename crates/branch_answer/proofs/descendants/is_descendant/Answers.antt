use Rattle.std.proofs.Common.{◌≡◌, ◌∙◌, ◌&&◌, true, ap, ap₂, option_map, sym}
use Rattle.svn_path.proofs.Orders.{pointwise-same_path}
use Rattle.svn_path.specs.Path.{components_of, same_name}
use Rattle.svn_dump.proofs.Renaming.Paths.{same_path-rename}
use Rattle.std.proofs.Common.{bytes_eq}
use Rattle.query_answer.proofs.InBytes.{alike, name}
use Rattle.branch_answer.proofs.Moved.{is_there-found}
use Rattle.branch_answer.proofs.Origins.{IsPathIn-present}
use Rattle.branch_answer.proofs.descendants.is_descendant.Goals as goal
use Rattle.branch_answer.specs.Descendants.{is_path}
use Rattle.branch_answer.specs.Presence.{is_present}

pub locate-requires : goal.locate-requires
locate-requires c =
    let dump = c.args.repo.now in
    let place = c.args.place.now in
    IsPathIn-present dump c.requires.kept place.path place.rev c.requires.of_names c.requires.within
    (is_there-found dump place.rev (components_of dump.names place.path) c.in_ok-entry.field-0 c.in_ok-entry.ensures ∙ c.if-is_none.ensures)

pub returns-in-Some : goal.returns-in-Some
returns-in-Some c =
    let dump = c.args.repo.now in
    let place = c.args.place.now in
    let at = c.args.at.now in
    let stood = c.in-Some.stood in
    let present : is_present dump place.path place.rev ≡ true =
    is_there-found dump place.rev (components_of dump.names place.path) c.in_ok-entry.field-0 c.in_ok-entry.ensures ∙ c.if-is_none.ensures in
    sym
    (ap₂ (λ a b. a && b) present
    (ap (is_path (components_of dump.names at.path)) (sym c.in_ok-stood.ensures.in_bytes ∙ ap (option_map (components_of dump.names)) c.in-Some.is)
    ∙ same_path-rename (name dump c.requires.kept) same_name bytes_eq (alike dump c.requires.kept) stood at.path
    ∙ sym (pointwise-same_path same_name stood at.path)
    ∙ sym c.eq.ensures))
