use Rattle.svn_dump.proofs.Common.{subst, err_from_is_err_and, IsIn}
use Rattle.svn_dump.proofs.Readers.{IsRefusal-body, IsRefusal-header, IsRefusal-line}
use Rattle.svn_dump.proofs.Readings.{IsDumpText-read, IsRefusal-end}
use Rattle.svn_dump.proofs.pieces.reader.Reader.pause.Goals as goal

pub returns-in_err-finish-in-Blocks-clause-refused : goal.returns-in_err-finish-in-Blocks-clause-refused
returns-in_err-finish-in-Blocks-clause-refused c =
    let (error, errs, same) = err_from_is_err_and c.from_residual.result c.from_residual.ensures.1 in
    rw (errs, same) (λ bytes has long.
    let is = subst (λ each. IsIn each c.args.self bytes) c.in-Blocks.is has in
    IsRefusal-end _ bytes _ is c.in_err-finish-in-Blocks.field-0.0 c.args.end long c.in_err-finish-in-Blocks.ensures.refused)

pub returns-in_ok-finish-in-Blocks-clause-ok : goal.returns-in_ok-finish-in-Blocks-clause-ok
returns-in_ok-finish-in-Blocks-clause-ok c = λ bytes has.
    let is = subst (λ each. IsIn each c.args.self bytes) c.in-Blocks.is has in
    let ensured = c.in_ok-finish-in-Blocks.ensures in
    IsDumpText-read _ bytes _ is c.in_ok-finish-in-Blocks.field-0 ensured.same ensured.kept

pub returns-in-Line-clause-refused : goal.returns-in-Line-clause-refused
returns-in-Line-clause-refused c = λ bytes has long.
    let is = subst (λ each. IsIn each c.args.self bytes) c.in-Line.is has in
    rw c.at.ensures (IsRefusal-line bytes c.refusal.result (c.refusal.ensures bytes is.so_far))

pub returns-in-Header-clause-refused : goal.returns-in-Header-clause-refused
returns-in-Header-clause-refused c = λ bytes has long.
    let is = subst (λ each. IsIn each c.args.self bytes) c.in-Header.is has in
    rw c.at-in-Header.ensures (IsRefusal-header c.args.self c.in-Header.header bytes c.refusal-in-Header.result is c.refusal-in-Header.ensures)

pub returns-in-Body-clause-refused : goal.returns-in-Body-clause-refused
returns-in-Body-clause-refused c = λ bytes has long.
    let is = subst (λ each. IsIn each c.args.self bytes) c.in-Body.is has in
    rw c.at-in-Body.ensures (IsRefusal-body c.args.self c.in-Body.field-0 c.in-Body.field-1 bytes is)
