use Rattle.svn_dump.proofs.Common.{◌≡◌, ◌∙◌, inl, inr, length, sym, arith, eqb-false, err_from_is_err_and}
use Rattle.svn_dump.proofs.PartialHeaders.{IsDecidedFrontError-piece, IsPartialHeader-more, some-last}
use Rattle.svn_dump.proofs.pieces.partial_header.PartialHeader.extend.Goals as goal
use Rattle.svn_dump.proofs.pieces.partial_header.PartialHeader.extend.Goals.{else-is_empty-via-then-is_empty+else-self-len, else-is_empty-via-else-is_empty}

pub end_line-requires-clause-some : goal.end_line-requires-clause-some
end_line-requires-clause-some c =
    let inside = c.self.inside in
    rw (← c.self.view_is) (some-last inside.bytes.items inside.start inside.names c.self.invariant c.in-Some.end.now (elim c.else-is_empty.branch [
      | else-is_empty-via-then-is_empty+else-self-len w ↦ inr (λ same. w.if-self-len.false (let long : w.len.result ≡ length inside.bytes.items = omega (arith, w.len.ensures) in same ∙ sym long))
      | else-is_empty-via-else-is_empty w ↦ inl (λ none. eqb-false (length c.in-Some.end.now) 0 (sym c.is_empty.ensures ∙ w.if-is_empty.false) none)
    ]))

pub returns-in_err-end_line-clause-refused : goal.returns-in_err-end_line-clause-refused
returns-in_err-end_line-clause-refused c =
    let (error, errs, same) = err_from_is_err_and c.from_residual.result c.from_residual.ensures.1 in
    let (done, whole, kept) = c.loop-end.invariant in
    rw (errs, same) (IsDecidedFrontError-piece c.args.self.now c.loop-end.self done c.in-Some.end.now c.in-Some.more.now c.args.piece.now c.loop-end.rest.now c.in_err-end_line.field-0.0
    whole kept c.in-Some.ensures.1 c.in_err-end_line.ensures.refused)

pub invariant_of-self-2 : goal.invariant_of-self-2
invariant_of-self-2 c =
    let inside = c.self-2.inside in
    rw c.in_ok-extend_from_slice.ensures.items (IsPartialHeader-more inside.bytes.items inside.start inside.names c.self-2.invariant c.loop-end.rest.now c.in_default.ensures)
