use Rattle.svn_dump.proofs.Common.{◌++◌, err_from_is_err_and}
use Rattle.svn_dump.proofs.Readers.{IsDecidedError-line, ReadsPart-line}
use Rattle.svn_dump.proofs.Growth.{GrowsTo_same}
use Rattle.svn_dump.proofs.pieces.reader.Reader.read_line.Goals as goal

pub returns-in_err-extend-clause-refused : goal.returns-in_err-extend-clause-refused
returns-in_err-extend-clause-refused c =
    let (error, errs, same) = err_from_is_err_and c.from_residual.result c.from_residual.ensures.1 in
    rw (errs, same) (λ bytes is.
    rw is.at (IsDecidedError-line (bytes ++ c.args.piece.now) c.in_err-extend.field-0.0 (c.in_err-extend.ensures.refused bytes is.so_far)))

pub returns-in-Some-clause-ok : goal.returns-in-Some-clause-ok
returns-in-Some-clause-ok c = λ bytes is.
    let reads = rw c.in-Some.is at c.in_ok-extend.ensures.ok in
    let ends = reads bytes is.so_far in (
      ends.last,
      ends.whole,
      ReadsPart-line c.args.self.now c.args.line bytes c.args.piece.now c.in-Some.format c.in-Some.rest.now is ends,
    )

pub returns-in-None-clause-grows : goal.returns-in-None-clause-grows
returns-in-None-clause-grows c = GrowsTo_same c.args.self.now.draft

pub returns-in-Some-clause-grows : goal.returns-in-Some-clause-grows
returns-in-Some-clause-grows c = GrowsTo_same c.args.self.now.draft
