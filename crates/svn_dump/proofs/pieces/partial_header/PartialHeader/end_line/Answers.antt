use Rattle.svn_dump.proofs.PartialHeaders.{IsPartialHeader-more, after_lines-more}
use Rattle.svn_dump.proofs.pieces.partial_header.PartialHeader.end_line.Goals as goal

pub invariant_of-self-2 : goal.invariant_of-self-2
invariant_of-self-2 c =
    let inside = c.self.inside in
    rw c.in_ok-extend_from_slice.ensures.items (IsPartialHeader-more inside.bytes.items inside.start inside.names c.self.invariant c.args.end.now c.requires.one_line)

pub names_with_last-requires : goal.names_with_last-requires
names_with_last-requires c =
    let inside = c.self.inside in
    rw (c.in_ok-extend_from_slice.ensures.items, after_lines-more inside.bytes.items c.self.invariant.front c.args.end.now c.requires.one_line) (rw (← c.self.view_is) at c.requires.some)

pub invariant_of-self-in_err-names : goal.invariant_of-self-in_err-names
invariant_of-self-in_err-names c =
    let inside = c.self.inside in
    rw c.in_ok-extend_from_slice.ensures.items (IsPartialHeader-more inside.bytes.items inside.start inside.names c.self.invariant c.args.end.now c.requires.one_line)

pub invariant_of-self-in_err-push : goal.invariant_of-self-in_err-push
invariant_of-self-in_err-push c =
    let inside = c.self.inside in
    rw (c.in_err-push.ensures.items, c.in_ok-extend_from_slice.ensures.items) (IsPartialHeader-more inside.bytes.items inside.start inside.names c.self.invariant c.args.end.now c.requires.one_line)
