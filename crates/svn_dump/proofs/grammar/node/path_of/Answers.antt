use Rattle.svn_dump.proofs.Common.{ap, take, Err, err_from_is_err_and}
use Rattle.svn_path.specs.Components.{parts_of}
use Rattle.svn_dump.proofs.Growing.{Extends-by}
use Rattle.svn_dump.proofs.Nodes.{path_error}
use Rattle.svn_dump.proofs.grammar.node.path_of.Goals as goal

pub returns-in_err-path-clause-refused : goal.returns-in_err-path-clause-refused
returns-in_err-path-clause-refused c =
    let (error, errs, same) = err_from_is_err_and c.from_residual.result c.from_residual.ensures.1 in
    let found = c.in_err-path.ensures in
    rw (errs, same) (path_error c.args.names.now c.read_without_dots.new.names c.args.bytes.now c.in_err-path.field-0.0 (λ dot. found.never_dot (ap Err dot)) (λ full. (found.full (ap Err full)).0) found.err.0 found.err.1)

pub returns-in_err-path-clause-grows : goal.returns-in_err-path-clause-grows
returns-in_err-path-clause-grows c =
    let left = c.in_err-path.ensures.err in
    Extends-by c.args.names.now c.read_without_dots.new.names (take left.0 (parts_of c.args.bytes.now)) left.1

pub returns-then-len-gt-MOST_COMPONENTS-clause-grows : goal.returns-then-len-gt-MOST_COMPONENTS-clause-grows
returns-then-len-gt-MOST_COMPONENTS-clause-grows c =
    Extends-by c.args.names.now c.read_without_dots.new.names (parts_of c.args.bytes.now) c.in_ok-path.ensures.table

pub returns-clause-grows : goal.returns-clause-grows
returns-clause-grows c = Extends-by c.args.names.now c.read_without_dots.new.names (parts_of c.args.bytes.now) c.in_ok-path.ensures.table
