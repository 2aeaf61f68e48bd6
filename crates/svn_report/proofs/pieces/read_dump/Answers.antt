use Rattle.svn_report.proofs.Common.{err_from_is_err_and}
use Rattle.svn_report.proofs.Fronts.{IsDumpErrorFrom-end}
use Rattle.svn_report.proofs.pieces.read_dump.Goals as goal

pub returns-clause-ok : goal.returns-clause-ok
returns-clause-ok g c =
    let read = c.in_ok-feed_from.ensures.ok in
    record { bytes = read.bytes; all = read.all; read = c.in_ok-finish.ensures.ok read.bytes read.read }

pub returns-in_err-finish-clause-error : goal.returns-in_err-finish-clause-error
returns-in_err-finish-clause-error g c =
    let told = err_from_is_err_and c.from_residual-in_err-finish.result c.from_residual-in_err-finish.ensures.1 in
    let read = c.in_ok-feed_from.ensures.ok in
    rw (told.1, told.2) (IsDumpErrorFrom-end (g.P.Pull.state c.args.input.now) (g.P.Pull.state c.feed_from.new.input) read.bytes _
    read.all read.undecided (c.in_err-finish.ensures.refused read.bytes read.read))
