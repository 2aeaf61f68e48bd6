use Rattle.svn_dump.proofs.Common.{refl, err_from_is_err_and}
use Rattle.svn_dump.proofs.Readers.{IfErr-rest, IfOk-rest, IsDecidedError-header, IsDecidedError-lengths, within-rest}
use Rattle.svn_dump.proofs.Growth.{GrowsTo_same}
use Rattle.svn_dump.proofs.pieces.reader.Reader.read_header.Goals as goal

pub returns-in_err-extend-clause-refused : goal.returns-in_err-extend-clause-refused
returns-in_err-extend-clause-refused c =
    let (error, errs, same) = err_from_is_err_and c.from_residual.result c.from_residual.ensures.1 in
    rw (errs, same) (λ bytes to begins.
    IsDecidedError-header c.args.self.now.format bytes c.args.header c.args.piece.now c.args.self.now.draft c.args.self.now.at c.in_err-extend.field-0.0 to begins c.in_err-extend.ensures.refused)

pub returns-in_err-body-in-Some-clause-refused : goal.returns-in_err-body-in-Some-clause-refused
returns-in_err-body-in-Some-clause-refused c =
    let (error, errs, same) = err_from_is_err_and c.from_residual-in_err-body-in-Some.result c.from_residual-in_err-body-in-Some.ensures.1 in
    let ends = rw c.in-Some.is at c.in_ok-extend.ensures.ok in
    rw (errs, same) (λ bytes to begins.
    IsDecidedError-lengths c.args.self.now bytes c.args.header c.args.piece.now c.extend.new.self c.in-Some.rest.now to begins ends _ c.in_err-body-in-Some.field-0.0 refl c.in_err-body-in-Some.ensures.refused)

pub returns-in_ok-body-in-Some-clause-ok : goal.returns-in_ok-body-in-Some-clause-ok
returns-in_ok-body-in-Some-clause-ok c =
    let ends = rw c.in-Some.is at c.in_ok-extend.ensures.ok in
    IfOk-rest c.args.self.now c.args.header c.args.piece.now c.extend.new.self c.in-Some.rest.now ends c.in_ok-body-in-Some.body c.in_ok-body-in-Some.ensures.body
    c.read_body.new.self c.read_body.result c.read_body.ensures.ok

pub returns-in_ok-body-in-Some-clause-within : goal.returns-in_ok-body-in-Some-clause-within
returns-in_ok-body-in-Some-clause-within c =
    let ends = rw c.in-Some.is at c.in_ok-extend.ensures.ok in
    within-rest c.args.header c.args.piece.now c.extend.new.self c.in-Some.rest.now ends c.read_body.result c.read_body.ensures.within

pub returns-in_ok-body-in-Some-clause-refused : goal.returns-in_ok-body-in-Some-clause-refused
returns-in_ok-body-in-Some-clause-refused c =
    let ends = rw c.in-Some.is at c.in_ok-extend.ensures.ok in
    IfErr-rest c.args.self.now c.args.header c.args.piece.now c.extend.new.self c.in-Some.rest.now ends c.in_ok-body-in-Some.body c.in_ok-body-in-Some.ensures.body
    c.read_body.new.self c.read_body.result c.read_body.ensures.refused

pub returns-in-None-clause-grows : goal.returns-in-None-clause-grows
returns-in-None-clause-grows c = GrowsTo_same c.args.self.now.draft
