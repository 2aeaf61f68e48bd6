use Rattle.svn_dump.proofs.Common.{drop, ap, ◌∙◌, err_from_is_err_and}
use Rattle.svn_dump.proofs.PartialHeaders.{IsPartialHeader-line, last-from, refused-name_twice, refused-no_header_line}
use Rattle.svn_dump.proofs.pieces.partial_header.PartialHeader.names_with_last.Goals as goal

pub returns-in_default-clause-refused : goal.returns-in_default-clause-refused
returns-in_default-clause-refused c =
    let inside = c.self.inside in
    let last = c.split_at.ensures.back ∙ ap (drop inside.start) c.deref.ensures.value ∙ last-from inside.bytes.items inside.start inside.names c.self.invariant in
    rw (← c.self.view_is)
    (refused-no_header_line inside.bytes.items inside.start inside.names c.self.invariant c.split_at.result.1.now last (rw (← c.self.view_is) at c.requires) c.in_default.ensures)

pub returns-in_err-add-clause-refused : goal.returns-in_err-add-clause-refused
returns-in_err-add-clause-refused c =
    let (error, errs, same) = err_from_is_err_and c.from_residual.result c.from_residual.ensures.1 in
    let inside = c.self.inside in
    let last = c.split_at.ensures.back ∙ ap (drop inside.start) c.deref.ensures.value ∙ last-from inside.bytes.items inside.start inside.names c.self.invariant in
    rw (errs, same, c.in_err-add.ensures.refused, ← c.self.view_is)
    (refused-name_twice inside.bytes.items inside.start inside.names c.self.invariant c.split_at.result.1.now last (rw (← c.self.view_is) at c.requires)
    c.in-Some.name.now c.in-Some.ensures.1 (rw c.dup-names.ensures at c.in_err-add.ensures.twice))

pub returns-clause-ok : goal.returns-clause-ok
returns-clause-ok c =
    let inside = c.self.inside in
    let last = c.split_at.ensures.back ∙ ap (drop inside.start) c.deref.ensures.value ∙ last-from inside.bytes.items inside.start inside.names c.self.invariant in
    rw (← c.self.view_is)
    (IsPartialHeader-line inside.bytes.items inside.start inside.names c.self.invariant c.split_at.result.1.now last (rw (← c.self.view_is) at c.requires)
    c.in-Some.name.now c.add.new.self c.in-Some.ensures.1 c.in-Some.ensures.0 (rw c.dup-names.ensures at c.in_ok-add.ensures.ok))
