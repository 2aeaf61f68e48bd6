use Rattle.svn_dump.proofs.Common.{◌++◌, err_from_is_err_and}
use Rattle.svn_dump.proofs.PartialLines.{IsDecidedLine-piece}
use Rattle.svn_dump.proofs.pieces.partial_line.PartialLine.extend.Goals as goal

pub returns-in_err-format-clause-refused : goal.returns-in_err-format-clause-refused
returns-in_err-format-clause-refused c =
    let (error, errs, same) = err_from_is_err_and c.from_residual.result c.from_residual.ensures.1 in
    rw (errs, same) (λ bytes is.
    let (done, whole, so_far) = c.loop-rest.invariant.1 bytes is in
    IsDecidedLine-piece bytes done c.loop-rest.rest.now c.args.piece.now whole c.in-len1-up.len_at_least c.in_err-format.field-0.0 (c.in_err-format.ensures.refused (bytes ++ done) so_far))
